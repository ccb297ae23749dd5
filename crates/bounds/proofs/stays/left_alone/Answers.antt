-- `bounds::stays::left-alone` meets its contract.
use Rattle.bounds.specs.Stays.{left_alone}
use Rattle.bounds.proofs.stays.left_alone.Goals as goal

pub returns : goal.returns
unfolding left_alone
returns c = simp c.bounds_stay.ensures
