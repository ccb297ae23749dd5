-- `changes::equating` meets its contract.
use Rattle.changes.proofs.equating.Goals as goal

pub returns : goal.returns
returns c = rw c.negate.ensures
