use Rattle.statements.specs.Statements.{unused_from}
use Rattle.statements.proofs.kinds.unused_from.Goals as goal

pub returns : goal.returns
unfolding unused_from
returns c = simp (
  c.is_zero-5.ensures,
  c.is_zero-4.ensures,
  c.is_zero-3.ensures,
  c.is_zero-2.ensures,
  c.is_zero.ensures,
)
