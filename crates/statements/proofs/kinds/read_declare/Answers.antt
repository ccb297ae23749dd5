use Rattle.statements.specs.Statements.{declare_read}
use Rattle.statements.proofs.kinds.read_declare.Goals as goal

pub returns-then-names_pointer-is_below : goal.returns-then-names_pointer-is_below
unfolding declare_read
returns-then-names_pointer-is_below c = simp (
  c.plain-then-names_pointer-is_below.ensures,
  c.plain.ensures,
  simp (
    c.unused_from.ensures,
    c.is_below.ensures,
    c.names_pointer.ensures,
  ) at c.if-names_pointer-is_below.true,
)

pub returns : goal.returns
unfolding declare_read
returns c = simp (simp (c.unused_from.ensures, c.is_below.ensures, c.names_pointer.ensures) at
    c.if-names_pointer-is_below.false)
