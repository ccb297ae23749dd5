use Rattle.words.specs.Sections.{pointer_at}
use Rattle.words.proofs.sections.is_pointer.Goals as goal

pub returns : goal.returns
unfolding pointer_at
returns c = simp (c.kind_is.ensures, c.kind_at.ensures)
