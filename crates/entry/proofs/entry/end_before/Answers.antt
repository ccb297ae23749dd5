-- `entry::entry::end-before` meets its contract.
use Rattle.entry.specs.EntryLaws.{end-before, end-before-first}
use Rattle.entry.proofs.entry.end_before.Goals as goal

pub returns-then-o-eq0 : goal.returns-then-o-eq0
returns-then-o-eq0 c = end-before-first _ _ c.if-o-eq0.true

pub returns : goal.returns
returns c = rw (c.value_at.ensures.value, c.value_at-2.ensures.value) (end-before _ _ c.if-o-eq0.false)
