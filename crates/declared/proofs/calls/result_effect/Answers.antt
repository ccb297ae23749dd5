-- `declared::calls::result_effect` meets its contract.
use borrow.Author.Tests.{eq-eqb, ne_eqb}
use Rattle.rules.specs.Calls.{result_effect}
use Rattle.declared.proofs.calls.result_effect.Goals as goal

pub returns-then-result-eq16 : goal.returns-then-result-eq16
unfolding result_effect
returns-then-result-eq16 c = rw (eq-eqb _ _ c.if-result-eq16.true)

pub returns : goal.returns
unfolding result_effect
returns c = rw (ne_eqb _ _ c.if-result-eq16.false)
