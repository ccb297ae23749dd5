-- `bounds::transfer::weight_of` meets its contract.
use borrow.Author.Tests.{eq-eqb, ne_eqb}
use Rattle.rules.specs.BoundsRules.{weight}
use Rattle.bounds.proofs.transfer.weight_of.Goals as goal

pub returns-then-end-v : goal.returns-then-end-v
unfolding weight
returns-then-end-v c = simp (eq-eqb _ _ c.if-end-v.true)

pub returns : goal.returns
unfolding weight
returns c = simp (ne_eqb _ _ c.if-end-v.false)
