use Rattle.words.specs.Sections.{names_array}
use Rattle.words.proofs.sections.names_array.Goals as goal

pub returns : goal.returns
unfolding names_array
returns c = simp (c.is_array.ensures, c.plain.ensures)
