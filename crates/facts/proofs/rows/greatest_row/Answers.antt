-- `facts::rows::greatest_row` meets its contract: each turn fills one more sum.
use Prim.Native.Nat.{ℕ, ◌-◌}
use mathlib.Core.Path.{ap}
use mathlib.Core.List.{List}
use borrow.Author.Rules.{rules}
use Rattle.arrays.specs.TabulateLaws.{filled_none, filled_more, filled-whole}
use Rattle.facts.specs.Rows.{greatest_row}
use Rattle.facts.proofs.rows.greatest_row.Goals as goal

pub loop-j-init : goal.loop-j-init
unfolding greatest_row
loop-j-init c = filled_none _ _ _ (search rules)

pub loop-j-preserved : goal.loop-j-preserved
unfolding greatest_row
loop-j-preserved c = filled_more c.loop-j.invariant (search rules) c.max.ensures

pub returns : goal.returns
unfolding greatest_row
returns c = ap (λ (l : List ℕ). record { sums = l }) (filled-whole c.loop-j.invariant c.loop-j-test.false)
