use Rattle.statements.specs.Statements.{check_read}
use Rattle.statements.proofs.kinds.read_check.Goals as goal

pub returns-then-condition_right-unused_from : goal.returns-then-condition_right-unused_from
unfolding check_read
returns-then-condition_right-unused_from c = simp (
  c.condition_of.ensures,
  simp (c.unused_from.ensures, c.condition_right.ensures) at
      c.if-condition_right-unused_from.true,
)

pub returns : goal.returns
unfolding check_read
returns c = simp (simp (c.unused_from.ensures, c.condition_right.ensures) at c.if-condition_right-unused_from.false)
