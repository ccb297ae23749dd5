use Rattle.std.proofs.Common.{rules}
use Rattle.table.specs.Form.{lowest_statement}
use Rattle.table.specs.Searches.{lowest-is}
use Rattle.table.proofs.lowest_statement.Goals as goal

pub returns : goal.returns
unfolding lowest_statement
returns c = lowest-is _ c.lowest.ensures (search rules)
