-- `reports::mark_if` meets its contract.
use Rattle.reports.specs.Reports.{marked_if}
use Rattle.reports.proofs.mark_if.Goals as goal

pub returns-then-safe : goal.returns-then-safe
unfolding marked_if
returns-then-safe c = simp c.if-safe.true c.mark.ensures

pub returns : goal.returns
unfolding marked_if
returns c = simp c.if-safe.false
