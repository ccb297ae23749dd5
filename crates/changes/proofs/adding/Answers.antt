-- `changes::adding` meets its contract.
use Rattle.changes.proofs.adding.Goals as goal

pub returns : goal.returns
returns c = rw c.no_fact.ensures
