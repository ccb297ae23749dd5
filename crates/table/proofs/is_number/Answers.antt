use Rattle.table.specs.Form.{is_number}
use Rattle.table.proofs.is_number.Goals as goal

pub returns : goal.returns
unfolding is_number
returns c = simp c.plain.ensures
