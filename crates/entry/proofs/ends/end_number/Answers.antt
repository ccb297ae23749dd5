-- `entry::ends::end_number` meets its contract.
use Rattle.entry.specs.Ends.{end_number}
use Rattle.entry.specs.EndsLaws.{number-else}
use Rattle.entry.proofs.ends.end_number.Goals as goal

pub returns-in-0 : goal.returns-in-0
unfolding end_number
returns-in-0 c = rw c.in-0.is

pub returns-in-1 : goal.returns-in-1
unfolding end_number
returns-in-1 c = rw c.in-1.is

pub returns-in_default : goal.returns-in_default
unfolding end_number
returns-in_default c = number-else _ _ c.in_default.in_default-own.rest.0.1 c.in_default.in_default-own.rest.1
