use Rattle.blocks.specs.FlowLaws.{lead-some, lead-none}
use Rattle.blocks.proofs.flow.first_simple.Goals as goal

pub returns-then-count-gt0 : goal.returns-then-count-gt0
returns-then-count-gt0 c = lead-some _ _ _ c.if-count-gt0.true

pub returns-else-count-gt0 : goal.returns-else-count-gt0
returns-else-count-gt0 c = lead-none _ _ _ c.if-count-gt0.false
