use Rattle.statements.specs.Statements.{load_read}
use Rattle.statements.proofs.kinds.read_load.Goals as goal

pub returns-then-names_integer-names_pointer : goal.returns-then-names_integer-names_pointer
unfolding load_read
returns-then-names_integer-names_pointer c = simp (
  c.index_of.ensures,
  c.plain-then-names_integer-names_pointer.ensures,
  c.plain.ensures,
  simp (
    c.unused_from.ensures,
    c.is_constant.ensures,
    c.names_index.ensures,
    c.names_pointer.ensures,
    c.names_integer.ensures,
  ) at c.if-names_integer-names_pointer.true,
)

pub returns : goal.returns
unfolding load_read
returns c = simp (simp (
  c.unused_from.ensures,
  c.is_constant.ensures,
  c.names_index.ensures,
  c.names_pointer.ensures,
  c.names_integer.ensures,
) at c.if-names_integer-names_pointer.false)
