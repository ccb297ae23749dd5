-- `listed::entry_right` meets its contract.
use Rattle.listed.specs.ListForm.{entry_right}
use Rattle.listed.proofs.entry_right.Goals as goal

pub returns : goal.returns
unfolding entry_right
returns c = simp (
  c.in_order.ensures,
  c.names_while.ensures,
  c.word-4.ensures,
  c.is_constant.ensures,
  c.word-3.ensures,
  c.sides_right.ensures,
  c.word-2.ensures,
  c.word.ensures,
)
