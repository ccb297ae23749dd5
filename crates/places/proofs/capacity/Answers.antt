use Rattle.places.specs.Positions.{capacity}
use borrow.Author.Rules.{rules}
use Rattle.places.proofs.capacity.Goals as goal

pub returns-then-store-eq0 : goal.returns-then-store-eq0
unfolding capacity
returns-then-store-eq0 c = search rules

pub returns : goal.returns
unfolding capacity
returns c = search rules
