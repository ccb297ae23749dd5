use Rattle.std.proofs.Common.{rules}
use Rattle.table.specs.Form.{lowest_row}
use Rattle.table.specs.Searches.{lowest-is}
use Rattle.table.proofs.lowest_row.Goals as goal

pub returns : goal.returns
unfolding lowest_row
returns c = lowest-is _ c.lowest.ensures (search rules)
