use Rattle.std.proofs.Common.{rules}
use Rattle.table.specs.Searches.{lowest-is}
use Rattle.overlaps.proofs.lowest_earlier.Goals as goal

pub returns : goal.returns
returns c = lowest-is _ c.lowest.ensures (search rules)
