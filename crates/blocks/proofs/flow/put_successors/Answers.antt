use Rattle.blocks.specs.Written.{put}
use mathlib.Core.Path.{refl}
use Rattle.blocks.proofs.flow.put_successors.Goals as goal

pub returns : goal.returns
unfolding put
returns c = refl
