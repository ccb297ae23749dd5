-- `declared::force::own_force` meets its contract.
use Rattle.arrays.specs.Tabulate.{tabulate}
use Rattle.declared.proofs.force.own_force.Goals as goal

pub returns : goal.returns
unfolding tabulate
returns c = c.force_of.ensures
