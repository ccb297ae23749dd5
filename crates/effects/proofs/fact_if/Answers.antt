-- `effects::fact_if` meets its contract.
use mathlib.Core.Path.{◌∙◌}
use Rattle.effects.specs.ChangeLaws.{adds_none}
use Rattle.effects.specs.FactRulesLaws.{added-where, left-where}
use Rattle.effects.proofs.fact_if.Goals as goal

pub returns-then-told : goal.returns-then-told
returns-then-told c = λ f. added-where f _ _ _ c.if-told.true

pub returns : goal.returns
returns c = λ f. adds_none c.no_fact.ensures f ∙ left-where f _ _ _ c.if-told.false
