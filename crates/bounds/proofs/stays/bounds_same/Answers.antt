-- `bounds::stays::bounds_same` meets its contract.
use Rattle.bounds.specs.Stays.{bounds_same}
use Rattle.bounds.proofs.stays.bounds_same.Goals as goal

pub returns : goal.returns
unfolding bounds_same
returns c = simp (c.end_same-2.ensures, c.end_same.ensures)
