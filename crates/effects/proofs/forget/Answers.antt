-- `effects::forget` meets its contract.
use Rattle.effects.specs.ChangeLaws.{makes-drop}
use Rattle.effects.proofs.forget.Goals as goal

pub returns : goal.returns
returns c = λ f. makes-drop c.ranging.ensures f
