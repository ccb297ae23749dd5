use Rattle.words.specs.Sections.{names_integer}
use Rattle.words.proofs.sections.names_integer.Goals as goal

pub returns : goal.returns
unfolding names_integer
returns c = simp (c.is_integer.ensures, c.plain.ensures)
