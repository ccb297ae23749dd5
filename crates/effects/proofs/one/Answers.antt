-- `effects::one` meets its contract.
use Rattle.effects.specs.ChangeLaws.{makes_one}
use Rattle.effects.proofs.one.Goals as goal

pub returns : goal.returns
returns c = λ f. makes_one c.no_fact.ensures c.adding.ensures f
