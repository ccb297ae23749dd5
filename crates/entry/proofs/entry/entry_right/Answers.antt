-- `entry::entry::entry_right` meets its contract.
use Rattle.entry.specs.Entry.{entry_right}
use Rattle.entry.proofs.entry.entry_right.Goals as goal

pub returns-then-is_pointer-value_at : goal.returns-then-is_pointer-value_at
unfolding entry_right
returns-then-is_pointer-value_at c = simp (
  c.bounds_true.ensures,
  simp (c.value_at.ensures.value, c.is_pointer.ensures) at
      c.if-is_pointer-value_at.true,
)

pub returns : goal.returns
unfolding entry_right
returns c = simp (
  c.value_at-2.ensures.value,
  simp (c.value_at.ensures.value, c.is_pointer.ensures) at
      c.if-is_pointer-value_at.false,
)
