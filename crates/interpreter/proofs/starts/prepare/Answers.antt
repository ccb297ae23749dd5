-- `interpreter::starts::prepare` meets its contract: the verdict refuses, or the accepted table is prepared.
use Rattle.std.proofs.lemmas.Result.{err_from_is_err_and}
use mathlib.Core.Path.{refl}
use mathlib.Core.List.{[]}
use Rattle.rules.specs.CallLaws.{none-formed}
use Rattle.rules.specs.AcceptedLaws.{accepted-clear}
use Rattle.rules.proofs.Decidable.{stored-verdict}
use Rattle.interpreter.specs.MarksLaws.{stored-report}
use Rattle.interpreter.specs.ClaimLaws.{check-refused}
use Rattle.interpreter.proofs.starts.prepare.Goals as goal

pub prepare_accepted-requires-clause-listed_value : goal.prepare_accepted-requires-clause-listed_value
prepare_accepted-requires-clause-listed_value c = (
  accepted-clear _ (stored-verdict [] none-formed _ _ _ (rw c.in_ok-report.was at c.check.ensures.0)) refl,
  stored-report _ _ _ (rw c.in_ok-report.was at c.check.ensures.1),
)

pub prepare_accepted-requires-clause-ends_len : goal.prepare_accepted-requires-clause-ends_len
prepare_accepted-requires-clause-ends_len c = c.requires

pub returns-in_err-report : goal.returns-in_err-report
returns-in_err-report c = let p = err_from_is_err_and c.from_residual.result c.from_residual.ensures.1 in
    rw (p.1, p.2) (check-refused _ _ _ _ _ _ _
    (stored-verdict [] none-formed _ _ _ (rw c.in_err-report.was at c.check.ensures.0)))
