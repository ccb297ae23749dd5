-- `machine::value_at` meets its contract.
use lib.ListN.{get_or-eq_default}
use mathlib.Core.Path.{sym}
use Rattle.machine.proofs.value_at.Goals as goal

pub returns-clause-value : goal.returns-clause-value
returns-clause-value c = sym (get_or-eq_default c.args.values.now 0 c.if-x-values.false)
