use Rattle.words.specs.Sections.{names_index}
use Rattle.words.proofs.sections.names_index.Goals as goal

pub returns : goal.returns
unfolding names_index
returns c = simp c.names_integer.ensures
