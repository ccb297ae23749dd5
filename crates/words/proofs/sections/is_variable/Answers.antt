use Rattle.words.specs.Sections.{is_variable}
use Rattle.words.proofs.sections.is_variable.Goals as goal

pub returns : goal.returns
unfolding is_variable
returns c = simp c.in_limits.ensures
