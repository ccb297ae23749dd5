-- `facts::FactSet::join` meets its contract.
use mathlib.Core.Path.{sym}
use Rattle.facts.specs.StoreLaws.{joined-first, joined-second}
use Rattle.facts.proofs.FactSet.join.Goals as goal

pub returns-then-self : goal.returns-then-self
returns-then-self c = sym (joined-first _ _ _ c.if-self.true)

pub returns-then-other : goal.returns-then-other
returns-then-other c = sym (joined-second _ _ _ c.if-self.false c.if-other.true)

pub join_both-requires : goal.join_both-requires
join_both-requires c = (c.if-self.false, c.if-other.false)

pub returns : goal.returns
returns c = c.join_both.ensures
