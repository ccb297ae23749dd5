use Rattle.table.specs.Variables.{pointer_record}
use Rattle.table.proofs.variables.pointer_record.Goals as goal

pub returns : goal.returns
unfolding pointer_record
returns c = simp (
  c.end_right-2.ensures,
  c.end_right.ensures,
  c.is_size.ensures,
  c.kind_is.ensures,
  c.kind_of.ensures,
)
