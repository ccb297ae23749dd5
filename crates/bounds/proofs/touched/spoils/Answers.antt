use Rattle.std.proofs.Common.{rules}
use Rattle.arrays.specs.TabulateLaws.{length-under}
use Rattle.table.specs.Searches.{lowest-is}
use Rattle.bounds.specs.TouchedLaws.{first-touched, touched-told}
use Rattle.bounds.proofs.touched.spoils.Goals as goal

pub returns : goal.returns
returns c = first-touched _ _ (lowest-is _ c.lowest.ensures (search (rules, length-under, touched-told)))
