-- `rounds::idle_after` meets its contract.
use Rattle.rounds.specs.LoopLaws.{idle-again, idle-no-more}
use Rattle.rounds.proofs.idle_after.Goals as goal

pub returns-then-made-eq0 : goal.returns-then-made-eq0
returns-then-made-eq0 c = idle-again _ _ c.if-made-eq0.true

pub returns-else-made-eq0 : goal.returns-else-made-eq0
returns-else-made-eq0 c = idle-no-more _ _ c.if-made-eq0.false
