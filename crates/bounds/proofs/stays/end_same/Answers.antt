-- `bounds::stays::end-same` meets its contract.
use Rattle.bounds.specs.Stays.{end_same}
use Rattle.bounds.proofs.stays.end_same.Goals as goal

pub returns-in_default : goal.returns-in_default
unfolding end_same
returns-in_default c = simp c.in_default.is

pub returns : goal.returns
unfolding end_same
returns c = simp (c.in-Some.is, c.end_names.ensures)
