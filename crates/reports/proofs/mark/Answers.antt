-- `reports::mark` meets its contract.
use Rattle.reports.specs.Reports.{marked}
use Rattle.reports.proofs.mark.Goals as goal

pub returns : goal.returns
unfolding marked
returns c = simp c.with_bit.ensures
