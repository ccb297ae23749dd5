use Rattle.std.proofs.Common.{rules}
use Rattle.table.specs.Searches.{lowest-is}
use Rattle.effects.specs.Entries.{first_unshown}
use Rattle.effects.proofs.entries.first_unshown.Goals as goal

pub returns : goal.returns
unfolding first_unshown
returns c = lowest-is _ (rw c.entry_count.ensures at c.lowest.ensures) (search rules)
