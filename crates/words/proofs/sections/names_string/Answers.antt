use Rattle.words.specs.Sections.{names_string}
use Rattle.words.proofs.sections.names_string.Goals as goal

pub returns : goal.returns
unfolding names_string
returns c = simp (c.is_string.ensures, c.plain.ensures)
