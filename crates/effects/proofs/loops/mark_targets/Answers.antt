-- The invariant: the marks so far with the targets that are left are the marks of all.
use Prim.Native.Nat.{◌+◌, ◌-◌}
use native.Mathlib.Omega.{arith}
use mathlib.Core.Path.{◌≡◌, sym, ◌∙◌}
use Rattle.effects.specs.MarkLaws.{mark-more, mark-none}
use Rattle.effects.proofs.loops.mark_targets.Goals as goal

pub loop-at-preserved : goal.loop-at-preserved
loop-at-preserved c =
    let z : c.args.first + c.args.count - c.loop-at.at - 1 ≡ c.args.first + c.args.count - (c.loop-at.at + 1) = omega arith in
    rw z at (c.loop-at.invariant ∙ mark-more _ _ _ _ _ (omega (arith, c.loop-at-test.true)) c.read_due.ensures c.mark_target-marks.ensures)

pub returns : goal.returns
returns c = sym (c.loop-at.invariant ∙ mark-none _ _ _ _ _ (omega (arith, c.loop-at-test.false)))
