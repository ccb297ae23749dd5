-- `effects::above_zero` meets its contract.
use mathlib.Core.Path.{◌∙◌}
use Rattle.effects.specs.ChangeLaws.{adds_none}
use Rattle.effects.specs.FactRulesLaws.{plain-kept, positive-added}
use Rattle.effects.proofs.above_zero.Goals as goal

pub returns-then-k-eq-BIAS : goal.returns-then-k-eq-BIAS
returns-then-k-eq-BIAS c = λ f. adds_none c.no_fact.ensures f ∙ plain-kept f _ _ c.if-k-eq-BIAS.true

pub returns : goal.returns
returns c = λ f. positive-added f _ _ c.if-k-eq-BIAS.false
