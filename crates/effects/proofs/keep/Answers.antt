-- `effects::keep` meets its contract.
use mathlib.Core.Path.{◌∙◌}
use Rattle.effects.specs.ChangeLaws.{adds_none, makes_one}
use Rattle.effects.proofs.keep.Goals as goal

pub returns : goal.returns
returns c = λ f. makes_one c.no_fact-2.ensures c.adding.ensures f ∙ adds_none c.no_fact.ensures f
