-- `seats::first_outcome` meets its contract.
use Rattle.seats.specs.SeatsLaws.{first-spent, first_done}
use Rattle.seats.proofs.first_outcome.Goals as goal

pub returns-then-sections-gt0 : goal.returns-then-sections-gt0
returns-then-sections-gt0 c = first-spent c.args.sections c.if-sections-gt0.true

pub returns : goal.returns
returns c = first_done c.args.sections c.if-sections-gt0.false
