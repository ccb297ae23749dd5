use Rattle.words.specs.Sections.{integer_at}
use Rattle.words.proofs.sections.is_integer.Goals as goal

pub returns : goal.returns
unfolding integer_at
returns c = simp (c.kind_is.ensures, c.kind_at.ensures)
