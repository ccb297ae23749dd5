-- `checks::check_arithmetic` meets its contract.
use mathlib.Core.Path.{◌∙◌}
use Rattle.checks.specs.CheckLaws.{arithmetic-step}
use Rattle.checks.proofs.check_arithmetic.Goals as goal

pub returns : goal.returns
returns c = c.step_unless.ensures ∙ arithmetic-step _ _ _ _
