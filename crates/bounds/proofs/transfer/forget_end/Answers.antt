-- `bounds::transfer::forget_end` meets its contract.
use mathlib.Core.Path.{sym, ◌∙◌}
use Rattle.rules.specs.BoundsRules.{forget_end}
use Rattle.bounds.proofs.transfer.forget_end.Goals as goal

pub returns-in_default : goal.returns-in_default
unfolding forget_end
returns-in_default c = simp c.in_default.is

pub returns-then-end_names : goal.returns-then-end_names
unfolding forget_end
returns-then-end_names c = simp (c.in-Some.is, sym c.end_names.ensures ∙ c.if-end_names.true)

pub returns : goal.returns
unfolding forget_end
returns c = simp (c.in-Some.is, sym c.end_names.ensures ∙ c.if-end_names.false)
