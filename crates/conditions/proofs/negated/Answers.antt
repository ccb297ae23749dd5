use Rattle.conditions.specs.Conditions.{negated_of}
use Rattle.conditions.proofs.negated.Goals as goal

pub returns : goal.returns
unfolding negated_of
returns c = simp c.negation.ensures
