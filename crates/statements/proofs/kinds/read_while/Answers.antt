use Rattle.statements.specs.Statements.{while_read}
use Rattle.statements.proofs.kinds.read_while.Goals as goal

pub returns-then-condition_right-is_below : goal.returns-then-condition_right-is_below
unfolding while_read
returns-then-condition_right-is_below c = simp (
  c.plain.ensures,
  c.condition_of.ensures,
  simp (
    c.unused_from.ensures,
    c.is_below.ensures,
    c.condition_right.ensures,
  ) at c.if-condition_right-is_below.true,
)

pub returns : goal.returns
unfolding while_read
returns c = simp (simp (c.unused_from.ensures, c.is_below.ensures, c.condition_right.ensures) at
    c.if-condition_right-is_below.false)
