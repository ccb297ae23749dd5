-- `bounds::stays::end-stays` meets its contract.
use Rattle.bounds.specs.Stays.{end_stays}
use Rattle.bounds.proofs.stays.end_stays.Goals as goal

pub returns-in_default : goal.returns-in_default
unfolding end_stays
returns-in_default c = simp c.in_default.is

pub returns : goal.returns
unfolding end_stays
returns c = simp (c.in-Some.is, c.end_names.ensures)
