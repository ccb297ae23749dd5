-- `facts::rows::lowered_sums` meets its contract: each turn fills one more sum.
use Prim.Native.Nat.{ℕ, ◌-◌, min}
use mathlib.Core.Path.{ap, sym, ◌∙◌}
use mathlib.Core.List.{List}
use borrow.Author.Rules.{rules}
use Rattle.arrays.specs.TabulateLaws.{filled_none, filled_more, filled-whole}
use Rattle.facts.specs.Rows.{shortened_row}
use Rattle.facts.proofs.rows.lowered_sums.Goals as goal

pub lowered_plain-requires : goal.lowered_plain-requires
unfolding shortened_row
lowered_plain-requires c = (sym c.is_plain.ensures ∙ c.if-is_plain.true, c.requires c.if-plain.true)

pub returns-then-is_plain : goal.returns-then-is_plain
unfolding shortened_row
returns-then-is_plain c = c.lowered_plain.ensures

pub loop-j-init : goal.loop-j-init
unfolding shortened_row
loop-j-init c = filled_none _ _ _ (search rules)

pub loop-j-preserved : goal.loop-j-preserved
unfolding shortened_row
loop-j-preserved c = filled_more c.loop-j.invariant (search rules) (c.min.ensures ∙ ap (min _) c.concat.ensures)

pub returns : goal.returns
unfolding shortened_row
returns c = ap (λ (l : List ℕ). record { sums = l }) (filled-whole c.loop-j.invariant c.loop-j-test.false)
