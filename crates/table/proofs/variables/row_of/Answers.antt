use Rattle.table.specs.Variables.{row_of}
use Rattle.table.proofs.variables.row_of.Goals as goal

pub returns-then-end_right : goal.returns-then-end_right
unfolding row_of
returns-then-end_right c = simp (
  c.end_of-then-end_right.ensures,
  c.end_of.ensures,
  simp
      (c.end_right-2.ensures, c.end_right.ensures) at c.if-end_right.true,
)

pub returns : goal.returns
unfolding row_of
returns c = simp (simp (c.end_right-2.ensures, c.end_right.ensures) at c.if-end_right.false)
