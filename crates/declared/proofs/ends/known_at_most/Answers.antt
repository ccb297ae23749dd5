-- `declared::ends::known_at_most` meets its contract.
use Rattle.rules.specs.Stored.{known_at_most}
use Rattle.rules.specs.BoundsRules as bounds_rules
use Rattle.declared.proofs.ends.known_at_most.Goals as goal

pub returns-in_default : goal.returns-in_default
unfolding bounds_rules.known_at_most
returns-in_default c = simp c.in_default.is

pub returns-in_default-b : goal.returns-in_default-b
unfolding bounds_rules.known_at_most
returns-in_default-b c = simp (c.in-Some.is, c.in_default-b.is)

pub returns : goal.returns
unfolding bounds_rules.known_at_most
returns c = simp (c.in-Some.is, c.in-Some-b.is) c.end_at_most.ensures
