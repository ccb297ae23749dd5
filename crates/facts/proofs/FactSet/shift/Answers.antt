-- `facts::FactSet::shift` meets its contract.
use mathlib.Core.Path.{sym}
use Rattle.facts.specs.StoreLaws.{shifted-other, shift_made}
use Rattle.facts.proofs.FactSet.shift.Goals as goal

pub returns-then-x-gt15 : goal.returns-then-x-gt15
returns-then-x-gt15 c = sym (shifted-other _ _ _ c.if-x-gt15.true)

pub returns : goal.returns
returns c = shift_made _ c.after.ensures c.if-x-gt15.false c.no_fact.ensures c.shifting.ensures
