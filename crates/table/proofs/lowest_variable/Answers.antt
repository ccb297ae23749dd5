use Rattle.std.proofs.Common.{rules}
use Rattle.table.specs.Form.{lowest_variable}
use Rattle.table.specs.Searches.{lowest-is}
use Rattle.table.proofs.lowest_variable.Goals as goal

pub returns : goal.returns
unfolding lowest_variable
returns c = lowest-is _ c.lowest.ensures (search rules)
