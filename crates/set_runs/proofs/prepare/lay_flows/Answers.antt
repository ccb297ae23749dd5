-- Each turn lays out the successors of one more routine.
use mathlib.Core.Path.{refl, sym, ◌∙◌}
use native.Mathlib.Omega.{arith}
use Rattle.set_runs.specs.PrepareLaws.{laid_none, laid_more, laid-whole}
use Rattle.set_runs.proofs.prepare.lay_flows.Goals as goal

pub loop-n-init : goal.loop-n-init
loop-n-init c = (laid_none _ _ c.requires.0 c.requires.2, refl)

pub lay_flow-requires : goal.lay_flow-requires
lay_flow-requires c = (c.requires.0, c.loop-n-test.true, omega (arith, c.requires.1, c.loop-n.invariant.1), c.loop-n.invariant.0.long)

pub loop-n-preserved : goal.loop-n-preserved
loop-n-preserved c = (
  laid_more _ _ c.requires.0 _ c.loop-n-test.true c.loop-n.invariant.0 c.lay_flow.ensures,
  c.lay_flow.auto.member ∙ c.loop-n.invariant.1,
)

pub shape_of-member : goal.shape_of-member
shape_of-member c = c.loop-n.invariant.1

pub shape_of-successors : goal.shape_of-successors
shape_of-successors c = c.loop-n.invariant.0.long ∙ sym c.requires.2

pub returns : goal.returns
returns c = laid-whole c.loop-n.invariant.0 c.loop-n.auto.n-end c.loop-n-test.false
