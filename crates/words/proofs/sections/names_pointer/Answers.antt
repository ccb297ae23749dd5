use Rattle.words.specs.Sections.{names_pointer}
use Rattle.words.proofs.sections.names_pointer.Goals as goal

pub returns : goal.returns
unfolding names_pointer
returns c = simp (c.is_pointer.ensures, c.plain.ensures)
