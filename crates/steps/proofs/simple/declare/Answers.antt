-- `steps::simple::declare` meets its contract.
use mathlib.Core.Path.{refl, ◌∙◌}
use native.Mathlib.Omega.{arith}
use Rattle.steps.specs.CopiedLaws.{copied_none, copied_more, more-long, copied_all}
use Rattle.steps.proofs.simple.declare.Goals as goal

pub loop-j-init : goal.loop-j-init
loop-j-init c = (copied_none _ _ _, c.requires.2)

pub loop-j-preserved : goal.loop-j-preserved
loop-j-preserved c = (
  copied_more _ _ _ _ _ c.requires.0 c.loop-j-test.true c.loop-j.invariant.0,
  more-long _ _ _ _ _ c.requires.0 c.loop-j-test.true c.loop-j.invariant.0 ∙ c.requires.2,
)

pub returns : goal.returns
returns c = (refl, copied_all _ _ _ _ _ (omega (arith, c.loop-j.auto.j-end)) c.loop-j-test.false c.loop-j.invariant.0)
