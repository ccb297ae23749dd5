-- `effects::assume` meets its contract, relation by relation.
use mathlib.Core.Path.{refl}
use Rattle.effects.specs.ChangeLaws.{makes_both}
use Rattle.effects.specs.FactRulesLaws.{condition-less, condition-not-less, condition-greater, condition-not-greater, condition-equal, condition-differs}
use Rattle.effects.proofs.assume.Goals as goal

pub returns-in-0 : goal.returns-in-0
returns-in-0 c = λ f. condition-less _ f _ c.in-0.is (c.one.ensures f)

pub returns-in-1 : goal.returns-in-1
returns-in-1 c = λ f. condition-not-less _ f _ c.in-1.is (c.one-in-1.ensures f)

pub returns-in-2 : goal.returns-in-2
returns-in-2 c = λ f. condition-greater _ f _ c.in-2.is (c.one-in-2.ensures f)

pub returns-in-3 : goal.returns-in-3
returns-in-3 c = λ f. condition-not-greater _ f _ c.in-3.is (c.one-in-3.ensures f)

pub returns-in-4 : goal.returns-in-4
returns-in-4 c = λ f. condition-equal _ f _ c.in-4.is refl (makes_both c.adding.ensures f)

pub returns-in_default : goal.returns-in_default
returns-in_default c = λ f. condition-differs _ f _ c.in_default.in_default-own.rest.0.0.0.0.1 c.in_default.in_default-own.rest.0.0.0.1
    c.in_default.in_default-own.rest.0.0.1 c.in_default.in_default-own.rest.0.1 c.in_default.in_default-own.rest.1 _ _
    c.fact_if.ensures c.fact_if-in_default.ensures (makes_both c.adding-in_default.ensures f)
