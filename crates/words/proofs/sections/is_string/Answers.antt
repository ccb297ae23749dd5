use Rattle.words.specs.Sections.{string_at}
use Rattle.words.proofs.sections.is_string.Goals as goal

pub returns : goal.returns
unfolding string_at
returns c = simp (c.kind_is.ensures, c.kind_at.ensures)
