use Rattle.words.specs.Fields.{is_constant}
use mathlib.Core.Path.{refl}
use Rattle.words.proofs.field.is_constant.Goals as goal

pub returns : goal.returns
unfolding is_constant
returns c = refl
