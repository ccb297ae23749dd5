-- `bounds::transfer::object_bounds` meets its contract.
use Rattle.rules.specs.BoundsRules.{object_bounds}
use mathlib.Core.Path.{refl}
use Rattle.bounds.proofs.transfer.object_bounds.Goals as goal

pub returns : goal.returns
unfolding object_bounds
returns c = refl
