-- `bounds::stays::bounds_stay` meets its contract.
use Rattle.bounds.specs.Stays.{bounds_stay}
use Rattle.bounds.proofs.stays.bounds_stay.Goals as goal

pub returns : goal.returns
unfolding bounds_stay
returns c = simp (c.end_stays-2.ensures, c.end_stays.ensures)
