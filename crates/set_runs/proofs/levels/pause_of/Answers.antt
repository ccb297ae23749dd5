-- `set_runs::levels::pause_of` meets its contract.
use native.Mathlib.Omega.{arith}
use Rattle.set_runs.specs.PauseLaws.{pause-done, pause-calls, pause-spent, pause-stopped, pause-refused}
use Rattle.set_runs.proofs.levels.pause_of.Goals as goal

pub returns-then-steps-limit : goal.returns-then-steps-limit
returns-then-steps-limit c = pause-calls _ _ c.in-Spent.is c.if-steps-limit.true

pub returns-in-Done : goal.returns-in-Done
returns-in-Done c = pause-done _ _ c.in-Done.is

pub returns-else-steps-limit : goal.returns-else-steps-limit
returns-else-steps-limit c = pause-spent _ _ c.in-Spent.is c.if-steps-limit.false c.halts.ensures

pub returns-in-Stopped : goal.returns-in-Stopped
returns-in-Stopped c = let e = c.halts-in-Stopped.ensures in grind (arith, pause-stopped, pause-refused)
