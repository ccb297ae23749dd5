use Rattle.words.specs.Sections.{takes_object}
use Rattle.words.proofs.sections.takes_object.Goals as goal

pub returns : goal.returns
unfolding takes_object
returns c = simp (c.object_terminated.ensures, c.plain-2.ensures, c.is_string.ensures, c.plain.ensures)
