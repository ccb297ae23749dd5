use Rattle.conditions.specs.Conditions.{condition_of}
use Rattle.conditions.proofs.condition_of.Goals as goal

pub returns : goal.returns
unfolding condition_of
returns c = simp (c.offset_of.ensures, c.right_of.ensures, c.plain-2.ensures, c.plain.ensures)
