-- `entry::entry::last_right` meets its contract.
use Rattle.rules.specs.BoundsRules as bounds_rules
use Rattle.entry.specs.Entry.{last_right}
use Rattle.entry.proofs.entry.last_right.Goals as goal

pub returns : goal.returns
unfolding last_right bounds_rules.upper_limit
returns c = rw (
  c.value_at-3.ensures.value,
  c.is_terminated.ensures,
  c.upper_limit-last.ensures.0,
  c.value_at-2.ensures.value,
  c.value_at.ensures.value,
)
