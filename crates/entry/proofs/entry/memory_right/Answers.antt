-- `entry::entry::memory_right` meets its contract.
use Rattle.entry.specs.EntryLaws.{pairs-too-few, pairs-counted}
use Rattle.entry.proofs.entry.memory_right.Goals as goal

pub returns-then-sections-directory : goal.returns-then-sections-directory
returns-then-sections-directory c = pairs-too-few _ _ _ c.if-sections-directory.true

pub returns : goal.returns
returns c = pairs-counted _ _ _ c.if-sections-directory.false
