use Rattle.table.specs.Variables.{end_right}
use Rattle.table.proofs.variables.end_right.Goals as goal

pub returns : goal.returns
unfolding end_right
returns c = simp (c.is_constant.ensures, c.names_index.ensures, c.names_pointer.ensures)
