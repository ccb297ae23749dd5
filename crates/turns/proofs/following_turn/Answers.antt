-- `turns::following_turn` meets its contract.
use mathlib.Core.Path.{sym}
use Rattle.turns.specs.TurnsLaws.{following-up, following-first}
use Rattle.turns.proofs.following_turn.Goals as goal

pub returns-then-r-count : goal.returns-then-r-count
returns-then-r-count c = sym (following-up _ _ c.if-r-count.true)

pub returns-else-r-count : goal.returns-else-r-count
returns-else-r-count c = sym (following-first _ _ c.if-r-count.false)
