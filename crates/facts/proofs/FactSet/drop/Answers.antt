-- `facts::FactSet::drop` meets its contract.
use Rattle.facts.specs.StoreLaws.{drop-made}
use Rattle.facts.proofs.FactSet.drop.Goals as goal

pub returns : goal.returns
returns c = drop-made _ c.after.ensures c.ranging.ensures
