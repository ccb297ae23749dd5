use Rattle.statements.specs.Statements.{literal_read}
use Rattle.statements.proofs.kinds.read_literal.Goals as goal

pub returns-then-names_integer-unused_from : goal.returns-then-names_integer-unused_from
unfolding literal_read
returns-then-names_integer-unused_from c = simp (
  c.literal_value.ensures,
  c.plain.ensures,
  simp
      (c.unused_from.ensures, c.names_integer.ensures) at c.if-names_integer-unused_from.true,
)

pub returns : goal.returns
unfolding literal_read
returns c = simp (simp (c.unused_from.ensures, c.names_integer.ensures) at c.if-names_integer-unused_from.false)
