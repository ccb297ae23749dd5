use Rattle.table.specs.Form.{object_right}
use Rattle.table.proofs.object_right.Goals as goal

pub returns : goal.returns
unfolding object_right
returns c = simp c.read_object-length.ensures
