-- `parts::start_of` meets its contract.
use native.Mathlib.Omega.{arith}
use Rattle.parts.specs.PartsLaws.{start_none, start-more}
use Rattle.parts.proofs.start_of.Goals as goal

pub loop-i-init : goal.loop-i-init
loop-i-init c = (start_none _ _ _, omega arith)

pub loop-i-preserved : goal.loop-i-preserved
loop-i-preserved c = (
  start-more _ _ _ _ _ _ c.loop-i.invariant.0 c.length_of-start.ensures.value,
  omega (arith, c.length_of-start.ensures.small, c.loop-i.invariant.1),
)
