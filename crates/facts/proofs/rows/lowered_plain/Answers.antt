-- `facts::rows::lowered_plain` meets its contract: each turn fills one more sum.
use Prim.Native.Nat.{ℕ, ◌-◌, min}
use mathlib.Core.Path.{ap, ◌∙◌}
use mathlib.Core.List.{List}
use borrow.Author.Rules.{rules}
use Rattle.arrays.specs.TabulateLaws.{filled_none, filled_more, filled-whole}
use Rattle.facts.specs.Rows.{shortened_row}
use Rattle.facts.proofs.rows.lowered_plain.Goals as goal

pub loop-j-init : goal.loop-j-init
unfolding shortened_row
loop-j-init c = filled_none _ _ _ (search rules)

pub concat_plain-requires : goal.concat_plain-requires
unfolding shortened_row
concat_plain-requires c = (c.requires.0, c.requires.1.each _ c.loop-j-test.true)

pub loop-j-preserved : goal.loop-j-preserved
unfolding shortened_row
loop-j-preserved c = filled_more c.loop-j.invariant (search rules) (c.min.ensures ∙ ap (min _) c.concat_plain.ensures)

pub returns : goal.returns
unfolding shortened_row
returns c = ap (λ (l : List ℕ). record { sums = l }) (filled-whole c.loop-j.invariant c.loop-j-test.false)
