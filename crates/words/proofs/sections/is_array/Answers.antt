use Rattle.words.specs.Sections.{array_at}
use Rattle.words.proofs.sections.is_array.Goals as goal

pub returns : goal.returns
unfolding array_at
returns c = simp (c.kind_is.ensures, c.kind_at.ensures)
