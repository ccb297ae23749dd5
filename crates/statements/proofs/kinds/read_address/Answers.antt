use Rattle.statements.specs.Statements.{address_read}
use Rattle.statements.proofs.kinds.read_address.Goals as goal

pub returns-then-names_pointer-is_below : goal.returns-then-names_pointer-is_below
unfolding address_read
returns-then-names_pointer-is_below c = simp (
  c.plain-then-names_pointer-is_below.ensures,
  c.plain.ensures,
  simp (
    c.unused_from.ensures,
    c.takes_object.ensures,
    c.is_below.ensures,
    c.names_pointer.ensures,
  ) at c.if-names_pointer-is_below.true,
)

pub returns : goal.returns
unfolding address_read
returns c = simp (simp (
  c.unused_from.ensures,
  c.takes_object.ensures,
  c.is_below.ensures,
  c.names_pointer.ensures,
) at c.if-names_pointer-is_below.false)
