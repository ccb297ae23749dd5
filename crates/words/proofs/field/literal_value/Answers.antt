use Rattle.words.specs.Fields.{literal_value}
use mathlib.Core.Path.{refl}
use Rattle.words.proofs.field.literal_value.Goals as goal

pub returns : goal.returns
unfolding literal_value
returns c = refl
