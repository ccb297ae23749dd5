-- `set_runs::lent::lay_routine` meets its contract: the routine's part of the room is lent to `copy_ends`.
use Rattle.set_runs.specs.PartLaws.{laid-replaced}
use Rattle.set_runs.proofs.lent.lay_routine.Goals as goal

pub returns : goal.returns
returns c = laid-replaced _ _ _ c.part_of-part.ensures.value
    c.requires.1
    c.read_environment-environment.ensures c.lay_ends.ensures
    c.copy_ends.ensures
