use Rattle.table.specs.Variables.{integer_record}
use Rattle.table.proofs.variables.integer_record.Goals as goal

pub returns : goal.returns
unfolding integer_record
returns c = simp (c.end_zero-2.ensures, c.end_zero.ensures, c.is_zero-2.ensures, c.is_zero.ensures)
