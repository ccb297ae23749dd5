-- `facts::FactSet::sum` meets its contract.
use borrow.Author.Tests.{lt-ltb, le-ltb}
use Rattle.facts.specs.Store.{least_sum}
use Rattle.facts.proofs.FactSet.sum.Goals as goal

pub returns-then-x-gt16 : goal.returns-then-x-gt16
unfolding least_sum
returns-then-x-gt16 c = simp (lt-ltb _ _ c.if-x-gt16.true)

pub returns-then-y-gt16 : goal.returns-then-y-gt16
unfolding least_sum
returns-then-y-gt16 c = simp (le-ltb _ _ c.if-x-gt16.false, lt-ltb _ _ c.if-y-gt16.true)

pub returns : goal.returns
unfolding least_sum
returns c = simp (le-ltb _ _ c.if-x-gt16.false, le-ltb _ _ c.if-y-gt16.false)
