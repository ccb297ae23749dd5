use native.Mathlib.Omega.{arith}
use Rattle.blocks.specs.FlowLaws.{too_short, long-enough}
use Rattle.blocks.proofs.flow.write_successors.Goals as goal

pub returns-then-end-entries : goal.returns-then-end-entries
returns-then-end-entries c = too_short _ _ _ (omega arith)

pub returns : goal.returns
returns c = long-enough _ _ _ _ (omega arith) c.link_block.ensures
