-- `declared::access_shown` meets its contract.
use Rattle.declared.specs.ShownLaws.{nothing-needed, pointer-needed}
use Rattle.declared.proofs.access_shown.Goals as goal

pub returns-in_default : goal.returns-in_default
returns-in_default c = nothing-needed _ _ _ _ c.access_of.ensures c.in_default.is

pub returns : goal.returns
returns c = pointer-needed _ _ _ _ c.access_of.ensures
    c.in-Some.is c.bounds_at.ensures c.bounds_at-2.ensures
    c.bounds_shown.ensures
