-- `rewalks::walking::walk_part` meets its contract.
use mathlib.Core.Path.{refl}
use native.Mathlib.Omega.{arith}
use Rattle.declared.specs.Callee.{none-called}
use Rattle.rewalks.specs.Walking.{alone-walks}
use Rattle.rewalks.proofs.walking.walk_part.Goals as goal

pub walk-requires : goal.walk-requires
walk-requires c = (c.requires.0, c.requires.1, c.requires.2, c.requires.3, omega arith)

pub returns : goal.returns
returns c = alone-walks _ _ _ _ (none-called _ _ refl) c.walk.ensures
