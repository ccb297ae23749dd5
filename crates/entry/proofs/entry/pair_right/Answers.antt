-- `entry::entry::pair_right` meets its contract.
use Rattle.entry.specs.Entry.{pair_right}
use Rattle.entry.proofs.entry.pair_right.Goals as goal

pub returns : goal.returns
unfolding pair_right
returns c = rw (
  c.length_at.ensures,
  c.end_before.ensures,
  c.value_at-low.ensures.value,
  c.value_at-length.ensures.value,
)
