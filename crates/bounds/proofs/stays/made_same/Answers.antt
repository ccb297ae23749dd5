-- `bounds::stays::made_same` meets its contract.
use Rattle.bounds.specs.Stays.{made_same}
use Rattle.bounds.proofs.stays.made_same.Goals as goal

pub returns : goal.returns
unfolding made_same
returns c = simp c.bounds_same.ensures
