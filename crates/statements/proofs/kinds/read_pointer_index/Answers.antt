use Rattle.statements.specs.Statements.{pointer_index_read}
use Rattle.statements.proofs.kinds.read_pointer_index.Goals as goal

pub returns-then-names_pointer-names_integer : goal.returns-then-names_pointer-names_integer
unfolding pointer_index_read
returns-then-names_pointer-names_integer c = simp (
  c.plain-then-names_pointer-names_integer-2.ensures,
  c.plain-then-names_pointer-names_integer.ensures,
  c.plain.ensures,
  simp (
    c.unused_from.ensures,
    c.takes_pointer.ensures,
    c.names_integer.ensures,
    c.names_pointer-2.ensures,
    c.names_pointer.ensures,
  ) at c.if-names_pointer-names_integer.true,
)

pub returns : goal.returns
unfolding pointer_index_read
returns c = simp (simp (
  c.unused_from.ensures,
  c.takes_pointer.ensures,
  c.names_integer.ensures,
  c.names_pointer-2.ensures,
  c.names_pointer.ensures,
) at c.if-names_pointer-names_integer.false)
