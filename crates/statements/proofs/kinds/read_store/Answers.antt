use Rattle.statements.specs.Statements.{store_read}
use Rattle.statements.proofs.kinds.read_store.Goals as goal

pub returns-then-names_pointer-names_index : goal.returns-then-names_pointer-names_index
unfolding store_read
returns-then-names_pointer-names_index c = simp (
  c.plain-then-names_pointer-names_index.ensures,
  c.index_of.ensures,
  c.plain.ensures,
  simp (
    c.unused_from.ensures,
    c.names_integer.ensures,
    c.is_constant.ensures,
    c.names_index.ensures,
    c.names_pointer.ensures,
  ) at c.if-names_pointer-names_index.true,
)

pub returns : goal.returns
unfolding store_read
returns c = simp (simp (
  c.unused_from.ensures,
  c.names_integer.ensures,
  c.is_constant.ensures,
  c.names_index.ensures,
  c.names_pointer.ensures,
) at c.if-names_pointer-names_index.false)
