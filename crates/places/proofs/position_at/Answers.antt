use Rattle.places.specs.Positions.{position_at}
use borrow.Author.Rules.{rules}
use Rattle.places.proofs.position_at.Goals as goal

pub returns : goal.returns
unfolding position_at
returns c = search rules
