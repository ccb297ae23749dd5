-- `bounds::touched::leaves_alone` meets its contract.
use Rattle.bounds.proofs.touched.leaves_alone.Goals as goal

pub returns : goal.returns
returns c = rw (c.changed_by.ensures, c.replaced_by.ensures) at c.left_alone.ensures
