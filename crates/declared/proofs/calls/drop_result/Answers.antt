-- `declared::calls::drop_result` meets its contract.
use borrow.Author.Tests.{eq-eqb, ne_eqb}
use Rattle.rules.specs.Calls as calls
use Rattle.declared.proofs.calls.drop_result.Goals as goal

pub returns-then-result-eq16 : goal.returns-then-result-eq16
unfolding calls.result_facts
returns-then-result-eq16 c = rw (eq-eqb _ _ c.if-result-eq16.true)

pub returns : goal.returns
unfolding calls.result_facts
returns c = rw (ne_eqb _ _ c.if-result-eq16.false) c.drop.ensures
