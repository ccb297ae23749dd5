-- `set_runs::outcome_of` meets its contract.
use mathlib.Core.Path.{sym, ap}
use Rattle.set_runs.specs.SetRuns.{outcome_of}
use Rattle.set_runs.proofs.outcome_of.Goals as goal

pub returns-in-Returns : goal.returns-in-Returns
returns-in-Returns c = sym (ap (outcome_of c.args.last) c.in-Returns.is)
