use Rattle.words.specs.Sections.{takes_pointer}
use Rattle.words.proofs.sections.takes_pointer.Goals as goal

pub returns : goal.returns
unfolding takes_pointer
returns c = simp (c.is_string-2.ensures, c.plain-2.ensures, c.is_string.ensures, c.plain.ensures)
