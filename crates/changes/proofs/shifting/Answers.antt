-- `changes::shifting` meets its contract.
use Rattle.changes.proofs.shifting.Goals as goal

pub returns : goal.returns
returns c = rw c.negate.ensures
