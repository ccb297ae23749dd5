use Rattle.places.specs.Places.{state_at}
use Rattle.places.proofs.facts_at.Goals as goal

pub returns : goal.returns
unfolding state_at
returns c = c.load.ensures
