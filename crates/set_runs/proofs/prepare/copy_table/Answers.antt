-- `set_runs::prepare::copy_table` meets its contract.
use borrow.Author.Rules.{rules}
use Rattle.std.proofs.lemmas.Slice.{overwrites}
use Rattle.set_runs.proofs.prepare.copy_table.Goals as goal

pub returns : goal.returns
returns c = record { long = search (rules, overwrites); within = search (rules, overwrites); front = search (rules, overwrites) }
