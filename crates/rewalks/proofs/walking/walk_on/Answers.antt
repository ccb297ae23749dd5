use Prim.Native.Nat.{◌-◌}
use mathlib.Core.Path.{refl, ap}
use native.Mathlib.Omega.{arith}
use Rattle.declared.specs.Force.{state_of}
use Rattle.checker.specs.WalkLaws.{forced-own}
use Rattle.rewalks.specs.Walking.{going-none, going-state, going_done, front-placed, going-refused, going_on}
use Rattle.rewalks.proofs.walking.walk_on.Goals as goal

pub loop-at-init : goal.loop-at-init
loop-at-init c = (
  going-state _ _ _ _ _ _ (going-none _ _ _ _ _ _ c.requires.2)
      (ap (state_of _) c.force_of-force.ensures.rows),
  forced-own c.force_of-force.ensures,
)

pub next_stop-stop-requires : goal.next_stop-stop-requires
next_stop-stop-requires c = (c.loop-at-test.true, c.requires.1, c.loop-at.invariant.0.stands)

pub overflow_sub-stop : goal.overflow_sub-stop
overflow_sub-stop c = omega (arith, c.next_stop-stop.ensures.later)

pub walk_part-next-requires : goal.walk_part-next-requires
walk_part-next-requires c = (
  c.requires.0,
  c.frame_of-frame.ensures,
  c.loop-at.invariant.1,
  front-placed c.next_stop-stop.ensures,
)

pub returns-in_default : goal.returns-in_default
returns-in_default c = going-refused _ _ _ _ _ _ c.loop-at.invariant.0
    c.keep_place.ensures c.next_stop-stop.ensures
    c.walk_part-next.ensures
    refl c.in_default.is

pub force_after-force-requires : goal.force_after-force-requires
force_after-force-requires c = c.loop-at.invariant.1

pub loop-at-smaller : goal.loop-at-smaller
loop-at-smaller c = omega (
  arith,
  c.next_stop-stop.ensures.later,
  c.loop-at-test.true,
)

pub loop-at-preserved : goal.loop-at-preserved
loop-at-preserved c = (
  going-state _ _ _ _ _ _
      (going_on _ _ _ _ _ _ c.loop-at.invariant.0
      c.keep_place.ensures
      c.next_stop-stop.ensures
      c.walk_part-next.ensures refl c.in-Ok.is)
      (ap (state_of _) c.force_after-force.ensures.rows),
  forced-own c.force_after-force.ensures,
)

pub returns : goal.returns
returns c = going_done _ _ _ _ _ _ c.loop-at.invariant.0 c.loop-at-test.false
