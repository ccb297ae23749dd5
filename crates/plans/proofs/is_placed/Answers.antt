use Rattle.plans.specs.PlanLaws.{placed_past, placed_off, placed_on}
use Rattle.plans.proofs.is_placed.Goals as goal

pub returns-then-at-statements : goal.returns-then-at-statements
returns-then-at-statements c = placed_past _ _ _ _ _ c.if-at-statements.true

pub returns-then-land-at : goal.returns-then-land-at
returns-then-land-at c = placed_off _ _ _ _ _ c.if-at-statements.false c.land.ensures c.if-land-at.true

pub returns : goal.returns
returns c = placed_on _ _ _ _ _ c.if-at-statements.false c.land.ensures c.if-land-at.false
