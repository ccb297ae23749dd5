use Rattle.statements.specs.Statements.{null_read}
use Rattle.statements.proofs.kinds.read_null.Goals as goal

pub returns-then-names_pointer-unused_from : goal.returns-then-names_pointer-unused_from
unfolding null_read
returns-then-names_pointer-unused_from c = simp (
  c.plain.ensures,
  simp (c.unused_from.ensures, c.names_pointer.ensures) at
      c.if-names_pointer-unused_from.true,
)

pub returns : goal.returns
unfolding null_read
returns c = simp (simp (c.unused_from.ensures, c.names_pointer.ensures) at c.if-names_pointer-unused_from.false)
