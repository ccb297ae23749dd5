-- `interpreter::run` meets its contract: it is refused, or the loop runs from what is laid out.
use native.Mathlib.Omega.{arith}
use Rattle.interpreter.specs.ClaimLaws.{first-refused, run-judged, started-refused, started-launched, launched-ready, launched-ran}
use Rattle.interpreter.proofs.run.Goals as goal

pub resume-requires-clause-laid : goal.resume-requires-clause-laid
resume-requires-clause-laid c = (launched-ready (started-launched _ _ _ _ _ c.in-Ok.is c.prepare-start.ensures) 0).0

pub resume-requires-clause-safe_run : goal.resume-requires-clause-safe_run
resume-requires-clause-safe_run c = (launched-ready (started-launched _ _ _ _ _ c.in-Ok.is c.prepare-start.ensures) _).1

pub returns-in-Err : goal.returns-in-Err
returns-in-Err c = run-judged _ _ _ _ _ _ _ _ _ _
    (first-refused _ _ _ _ _ (started-refused _ _ _ _ _ _ _ c.in-Err.is c.prepare-start.ensures))

pub returns-in-Ok : goal.returns-in-Ok
returns-in-Ok c = run-judged _ _ _ _ _ _ _ _ _ _
    (launched-ran (started-launched _ _ _ _ _ c.in-Ok.is
    c.prepare-start.ensures) _
    c.resume.ensures)
