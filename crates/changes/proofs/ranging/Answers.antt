-- `changes::ranging` meets its contract.
use Rattle.changes.proofs.ranging.Goals as goal

pub returns : goal.returns
returns c = rw (c.no_fact-none.ensures, c.from.ensures, c.from-2.ensures)
