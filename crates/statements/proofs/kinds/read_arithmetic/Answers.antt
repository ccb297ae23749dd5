use Rattle.statements.specs.Statements.{arithmetic_read}
use Rattle.statements.proofs.kinds.read_arithmetic.Goals as goal

pub returns-then-names_integer-is_below : goal.returns-then-names_integer-is_below
unfolding arithmetic_read
returns-then-names_integer-is_below c = simp (
  c.plain-then-names_integer-is_below-3.ensures,
  c.plain-then-names_integer-is_below-2.ensures,
  c.plain-then-names_integer-is_below.ensures,
  c.plain.ensures,
  simp (
    c.unused_from.ensures,
    c.is_below.ensures,
    c.names_integer-3.ensures,
    c.names_integer-2.ensures,
    c.names_integer.ensures,
  ) at c.if-names_integer-is_below.true,
)

pub returns : goal.returns
unfolding arithmetic_read
returns c = simp (simp (
  c.unused_from.ensures,
  c.is_below.ensures,
  c.names_integer-3.ensures,
  c.names_integer-2.ensures,
  c.names_integer.ensures,
) at c.if-names_integer-is_below.false)
