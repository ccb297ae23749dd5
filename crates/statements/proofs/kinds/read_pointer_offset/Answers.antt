use Rattle.statements.specs.Statements.{pointer_offset_read}
use Rattle.statements.proofs.kinds.read_pointer_offset.Goals as goal

pub returns-then-names_pointer-is_constant : goal.returns-then-names_pointer-is_constant
unfolding pointer_offset_read
returns-then-names_pointer-is_constant c = simp (
  c.plain-then-names_pointer-is_constant.ensures,
  c.plain.ensures,
  simp (
    c.unused_from.ensures,
    c.takes_pointer.ensures,
    c.is_constant.ensures,
    c.names_pointer-2.ensures,
    c.names_pointer.ensures,
  ) at c.if-names_pointer-is_constant.true,
)

pub returns : goal.returns
unfolding pointer_offset_read
returns c = simp (simp (
  c.unused_from.ensures,
  c.takes_pointer.ensures,
  c.is_constant.ensures,
  c.names_pointer-2.ensures,
  c.names_pointer.ensures,
) at c.if-names_pointer-is_constant.false)
