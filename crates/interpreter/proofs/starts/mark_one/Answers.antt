-- `interpreter::starts::mark_one` meets its contract.
use Rattle.interpreter.proofs.starts.mark_one.Goals as goal

pub returns-then-safe : goal.returns-then-safe
returns-then-safe c = simp c.if-safe.true
