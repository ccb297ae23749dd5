-- `set_runs::calls::give_result` meets its contract: a variable that is not there is not set.
use mathlib.Core.Path.{sym}
use lib.Seq.{set_out}
use Rattle.set_runs.proofs.calls.give_result.Goals as goal

pub returns-else-res-values : goal.returns-else-res-values
returns-else-res-values c = sym (set_out _ _ _ c.if-res-values.false)
