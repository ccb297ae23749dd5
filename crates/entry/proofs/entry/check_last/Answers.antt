-- `entry::entry::check_last` meets its contract.
use Rattle.std.proofs.Common.{rules, ◌∙◌}
use Rattle.table.specs.Searches.{lowest-is}
use Rattle.entry.specs.EntryLaws.{first-failure}
use Rattle.entry.proofs.entry.check_last.Goals as goal

pub returns : goal.returns
returns c = c.answer.ensures ∙ first-failure _ _ _ (lowest-is _ c.lowest-o.ensures (search rules))
