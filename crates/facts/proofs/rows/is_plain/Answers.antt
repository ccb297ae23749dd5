-- `facts::rows::is_plain` meets its contract.
use Rattle.facts.specs.Rows.{is_plain}
use borrow.Author.Rules.{rules}
use Rattle.facts.proofs.rows.is_plain.Goals as goal

pub returns : goal.returns
unfolding is_plain
returns c = search rules
