use Rattle.std.proofs.Common.{rules}
use Rattle.table.specs.Searches.{lowest-is}
use Rattle.listed.specs.ListForm.{lowest_entry}
use Rattle.listed.proofs.lowest_entry.Goals as goal

pub returns : goal.returns
unfolding lowest_entry
returns c = lowest-is _ (rw c.entry_count.ensures at c.lowest.ensures) (search rules)
