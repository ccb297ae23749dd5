-- `facts::FactSet::add` meets its contract.
use Rattle.facts.specs.StoreLaws.{add-made}
use Rattle.facts.proofs.FactSet.add.Goals as goal

pub returns : goal.returns
returns c = add-made _ c.after.ensures c.no_fact.ensures c.adding.ensures
