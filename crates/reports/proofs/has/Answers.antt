-- `reports::has` meets its contract.
use Rattle.reports.specs.Reports.{reported}
use Rattle.reports.proofs.has.Goals as goal

pub returns : goal.returns
unfolding reported
returns c = c.has_bit.ensures
