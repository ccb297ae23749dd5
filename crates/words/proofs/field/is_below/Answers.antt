use Rattle.words.specs.Fields.{is_below}
use Rattle.words.proofs.field.is_below.Goals as goal

pub returns : goal.returns
unfolding is_below
returns c = simp c.plain.ensures
