-- `checks::relates` meets its contract.
use Rattle.conditions.specs.Conditions.{relates}
use Rattle.checks.specs.CheckLaws.{relates-else}
use Rattle.checks.proofs.relates.Goals as goal

pub returns-in-0 : goal.returns-in-0
unfolding relates
returns-in-0 c = rw c.in-0.is

pub returns-in-1 : goal.returns-in-1
unfolding relates
returns-in-1 c = rw c.in-1.is

pub returns-in-2 : goal.returns-in-2
unfolding relates
returns-in-2 c = rw c.in-2.is

pub returns-in-3 : goal.returns-in-3
unfolding relates
returns-in-3 c = rw c.in-3.is

pub returns-in-4 : goal.returns-in-4
unfolding relates
returns-in-4 c = rw c.in-4.is

pub returns-in_default : goal.returns-in_default
unfolding relates
returns-in_default c = relates-else _ _ _ c.in_default.in_default-own.rest.0.0.0.0.1 c.in_default.in_default-own.rest.0.0.0.1
    c.in_default.in_default-own.rest.0.0.1 c.in_default.in_default-own.rest.0.1 c.in_default.in_default-own.rest.1
