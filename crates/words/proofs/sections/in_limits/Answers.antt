use Rattle.words.specs.Sections.{in_limits}
use Rattle.words.proofs.sections.in_limits.Goals as goal

pub returns : goal.returns
unfolding in_limits
returns c = simp c.start_right.ensures
