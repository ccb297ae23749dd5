-- `dispatcher::run_ready` meets its contract: cause 14, or the turns.
use Rattle.dispatcher.specs.DispatchLaws.{code-right, code-turns-ask, code-overlaps, all-promised}
use Rattle.dispatcher.proofs.run_ready.Goals as goal

pub first_overlap-first-requires : goal.first_overlap-first-requires
first_overlap-first-requires c = code-right _ c.requires.0
    c.requires.1 c.requires.2

pub returns-then-first-count : goal.returns-then-first-count
returns-then-first-count c = code-overlaps _ c.requires.0
    c.requires.1
    c.requires.2 _ _ _
    c.first_overlap-first.ensures c.if-first-count.true

pub take_turns-after-requires : goal.take_turns-after-requires
take_turns-after-requires c = code-turns-ask _ c.requires.0
    c.requires.1
    c.requires.2 _ _
    c.first_overlap-first.ensures c.if-first-count.false

pub returns : goal.returns
returns c = all-promised _ _ _ _ _ _
    c.requires.0 c.take_turns-after.ensures
