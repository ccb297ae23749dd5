-- The invariant: the marked variables below v are dropped.
use borrow.Author.Rules.{rules}
use Prim.Native.Nat.{◌-◌}
use mathlib.Core.Bool.{false}
use native.Mathlib.Omega.{arith}
use Rattle.facts.specs.StoreLaws.{drop-made}
use Rattle.effects.specs.MarkLaws.{dropped-none, drop-marked, drop-unmarked, drop-done}
use Rattle.effects.proofs.loops.drop_marked.Goals as goal
use Rattle.effects.proofs.loops.drop_marked.Goals.{else-marks-v, then-marks-v}

pub loop-v-init : goal.loop-v-init
loop-v-init c = (dropped-none _ _, search rules)

pub loop-v-preserved : goal.loop-v-preserved
loop-v-preserved c = (
  elim c.if-marks-v.branch [
    | then-marks-v w ↦ drop-marked _ _ _ c.loop-v.invariant.0 w.if-marks-v.true (drop-made _ w.after-facts.ensures w.ranging.ensures) w.facts-is
    | else-marks-v w ↦ drop-unmarked _ _ _ c.loop-v.invariant.0 w.if-marks-v.false w.facts-is
  ],
  search rules,
)

pub returns : goal.returns
returns c = drop-done _ _ _ c.loop-v.invariant.0 (omega (arith, c.loop-v.invariant.1, c.loop-v-test.false))
