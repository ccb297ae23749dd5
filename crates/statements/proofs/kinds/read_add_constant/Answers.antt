use Rattle.statements.specs.Statements.{add_constant_read}
use Rattle.statements.proofs.kinds.read_add_constant.Goals as goal

pub returns-then-names_integer-is_constant : goal.returns-then-names_integer-is_constant
unfolding add_constant_read
returns-then-names_integer-is_constant c = simp (
  c.plain-then-names_integer-is_constant.ensures,
  c.plain.ensures,
  simp (
    c.unused_from.ensures,
    c.is_constant.ensures,
    c.names_integer-2.ensures,
    c.names_integer.ensures,
  ) at c.if-names_integer-is_constant.true,
)

pub returns : goal.returns
unfolding add_constant_read
returns c = simp (simp (
  c.unused_from.ensures,
  c.is_constant.ensures,
  c.names_integer-2.ensures,
  c.names_integer.ensures,
) at c.if-names_integer-is_constant.false)
