-- `entry::ends::end_of` meets its contract.
use Rattle.entry.proofs.ends.end_of.Goals as goal

pub returns-in-None : goal.returns-in-None
returns-in-None c = rw c.in-None.is
