use Rattle.statements.specs.Statements.{if_read}
use Rattle.statements.proofs.kinds.read_if.Goals as goal

pub returns-then-condition_right-is_below : goal.returns-then-condition_right-is_below
unfolding if_read
returns-then-condition_right-is_below c = simp (
  c.plain-then-condition_right-is_below.ensures,
  c.plain.ensures,
  c.condition_of.ensures,
  simp (
    c.is_below-2.ensures,
    c.is_below.ensures,
    c.condition_right.ensures,
  ) at c.if-condition_right-is_below.true,
)

pub returns : goal.returns
unfolding if_read
returns c = simp (simp (c.is_below-2.ensures, c.is_below.ensures, c.condition_right.ensures) at
    c.if-condition_right-is_below.false)
