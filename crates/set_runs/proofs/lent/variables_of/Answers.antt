-- `set_runs::lent::variables_of` meets its contract.
use Rattle.set_runs.specs.PartLaws.{variables-are}
use Rattle.set_runs.proofs.lent.variables_of.Goals as goal

pub returns : goal.returns
returns c = variables-are _ _ _ c.part_of-part.ensures.value
