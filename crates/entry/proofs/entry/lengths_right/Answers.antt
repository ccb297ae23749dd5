-- `entry::entry::lengths_right` meets its contract.
use Rattle.entry.specs.Entry.{lengths_right}
use mathlib.Core.Path.{refl}
use Rattle.entry.proofs.entry.lengths_right.Goals as goal

pub returns : goal.returns
unfolding lengths_right
returns c = refl
