-- `checks::check_condition` meets its contract.
use mathlib.Core.Path.{sym, ◌∙◌}
use Rattle.checks.specs.Checked.{step_unless}
use Rattle.checks.proofs.check_condition.Goals as goal

pub returns-then-condition_holds : goal.returns-then-condition_holds
unfolding step_unless
returns-then-condition_holds c = simp (sym c.condition_holds.ensures ∙ c.if-condition_holds.true)

pub returns : goal.returns
unfolding step_unless
returns c = simp (sym c.condition_holds.ensures ∙ c.if-condition_holds.false)
