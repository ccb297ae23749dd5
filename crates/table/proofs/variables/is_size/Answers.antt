use Rattle.table.specs.Variables.{is_size}
use mathlib.Core.Path.{refl}
use Rattle.table.proofs.variables.is_size.Goals as goal

pub returns : goal.returns
unfolding is_size
returns c = refl
