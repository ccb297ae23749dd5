-- `effects::range` meets its contract.
use Rattle.effects.specs.ChangeLaws.{makes-range}
use Rattle.effects.proofs.range.Goals as goal

pub returns : goal.returns
returns c = λ f. makes-range _ _ _ c.ranging.ensures f
