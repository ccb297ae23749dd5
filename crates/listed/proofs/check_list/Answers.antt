-- `listed::check_list` meets its contract.
use Rattle.listed.specs.ListLaws.{list-long, list-faulty, list_right}
use Rattle.listed.proofs.check_list.Goals as goal

pub returns-then-listed-gt1024 : goal.returns-then-listed-gt1024
returns-then-listed-gt1024 c = list-long _ _ _ c.if-listed-gt1024.true

pub returns-then-entry-entry_count : goal.returns-then-entry-entry_count
returns-then-entry-entry_count c = list-faulty _ _ _ c.if-listed-gt1024.false c.lowest_entry-entry.ensures c.entry_count.ensures c.if-entry-entry_count.true

pub returns : goal.returns
returns c = list_right _ _ _ c.if-listed-gt1024.false c.lowest_entry-entry.ensures c.entry_count.ensures c.if-entry-entry_count.false
