use Rattle.plans.specs.PlanLaws.{spanned}
use Rattle.plans.proofs.removed_by.Goals as goal

pub returns-in_default : goal.returns-in_default
returns-in_default c = (spanned _ c.in_default.not-Insert c.span.ensures.0, c.span.ensures.2)
