use Rattle.std.proofs.Common.{rules}
use Rattle.table.specs.Form.{lowest_object}
use Rattle.table.specs.Searches.{lowest-is}
use Rattle.table.proofs.lowest_object.Goals as goal

pub returns : goal.returns
unfolding lowest_object
returns c = lowest-is _ c.lowest.ensures (search rules)
