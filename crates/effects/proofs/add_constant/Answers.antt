-- `effects::add_constant` meets its contract.
use borrow.Author.Rules.{rules}
use mathlib.Core.Path.{◌∙◌}
use Rattle.effects.specs.ChangeLaws.{adds_none, makes-shift, makes-equal}
use Rattle.effects.specs.FactRulesLaws.{sum-dropped, sum_shifted, sum-equated}
use Rattle.effects.proofs.add_constant.Goals as goal

pub returns-then-not-fits : goal.returns-then-not-fits
returns-then-not-fits c = λ f. sum-dropped _ _ _ f _ _ _ (c.if-not-fits.true) (c.forget.ensures f)

pub returns-then-x-y : goal.returns-then-x-y
returns-then-x-y c = λ f. sum_shifted _ _ _ f _ _ _ (c.if-not-fits.false) c.if-x-y.true
    (makes-shift (search rules) c.shifting.ensures f ∙ adds_none c.no_fact.ensures _)

pub returns : goal.returns
returns c = λ f. sum-equated _ _ _ f _ _ _ (c.if-not-fits.false) c.if-x-y.false
    (makes-equal c.equating.ensures f ∙ adds_none c.no_fact-2.ensures _)
