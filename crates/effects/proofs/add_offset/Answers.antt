-- `effects::add_offset` meets its contract.
use borrow.Author.Rules.{rules}
use mathlib.Core.Path.{◌∙◌}
use Rattle.effects.specs.ChangeLaws.{makes-shift, makes-equal}
use Rattle.effects.specs.FactRulesLaws.{offset-shifted, offset-copied}
use Rattle.effects.proofs.add_offset.Goals as goal

pub returns-then-p-q : goal.returns-then-p-q
returns-then-p-q c = λ f. offset-shifted _ _ f _ _ _ c.if-p-q.true (makes-shift (search rules) c.shifting.ensures f ∙ c.above_zero-third.ensures _)

pub returns : goal.returns
returns c = λ f. offset-copied _ _ f _ _ _ c.if-p-q.false (makes-equal c.equating.ensures f ∙ c.above_zero-third.ensures _)
