-- `effects::entries::check_entries` meets its contract.
use Rattle.effects.specs.EntryLaws.{entry-missed, entries-shown}
use Rattle.effects.proofs.entries.check_entries.Goals as goal

pub returns-then-entry-entry_count : goal.returns-then-entry-entry_count
returns-then-entry-entry_count c = entry-missed _ _ _ c.first_unshown-entry.ensures c.entry_count.ensures c.if-entry-entry_count.true

pub returns : goal.returns
returns c = entries-shown _ _ _ c.first_unshown-entry.ensures c.entry_count.ensures c.if-entry-entry_count.false
