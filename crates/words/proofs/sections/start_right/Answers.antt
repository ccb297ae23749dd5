use Rattle.words.specs.Sections.{start_right}
use mathlib.Core.Path.{refl}
use Rattle.words.proofs.sections.start_right.Goals as goal

pub returns : goal.returns
unfolding start_right
returns c = refl
