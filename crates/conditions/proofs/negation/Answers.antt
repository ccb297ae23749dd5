use borrow.Author.Tests.{eq-eqb, ne_eqb}
use Rattle.conditions.specs.Conditions.{negation}
use Rattle.conditions.proofs.negation.Goals as goal

pub returns-then-relation-eq0 : goal.returns-then-relation-eq0
unfolding negation
returns-then-relation-eq0 c = rw (eq-eqb _ _ c.if-relation-eq0.true)

pub returns : goal.returns
unfolding negation
returns c = rw (ne_eqb _ _ c.if-relation-eq0.false)
