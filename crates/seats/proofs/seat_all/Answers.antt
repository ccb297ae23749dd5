-- `seats::seat_all` meets its contract: those before r are ready.
use Prim.Native.Nat.{◌-◌}
use mathlib.Core.Path.{refl, sym, ◌∙◌}
use native.Mathlib.Omega.{arith}
use Rattle.seats.specs.SeatsLaws.{ready-none, ready-more, ready_refused, ready-all}
use Rattle.seats.proofs.seat_all.Goals as goal

pub loop-r-init : goal.loop-r-init
loop-r-init c = (
    ready-none _ _ _ _ refl c.requires.1
    c.requires.2
    )

pub seat_routine-seated-requires : goal.seat_routine-seated-requires
seat_routine-seated-requires c = (
  omega (
    arith,
    c.loop-r-test.true,
    c.requires.0.few,
  ),
  c.loop-r.invariant.ends-long,
  c.loop-r.invariant.flow-long,
)

pub shape_of-ends-in-Err : goal.shape_of-ends-in-Err
shape_of-ends-in-Err c = c.seat_routine-seated.auto.ends
    ∙ c.loop-r.invariant.ends-long
    ∙ sym c.requires.1

pub shape_of-successors-in-Err : goal.shape_of-successors-in-Err
shape_of-successors-in-Err c = c.seat_routine-seated.auto.successors
    ∙ c.loop-r.invariant.flow-long
    ∙ sym c.requires.2

pub returns-in-Err : goal.returns-in-Err
returns-in-Err c = ready_refused c.loop-r.invariant (omega (
  arith,
  c.loop-r-test.true,
  c.requires.0.counted,
))
    c.in-Err.is c.seat_routine-seated.ensures

pub bounds-seats-r : goal.bounds-seats-r
bounds-seats-r c = omega (
  arith,
  c.loop-r-test.true,
  c.requires.0.few,
)

pub loop-r-preserved : goal.loop-r-preserved
loop-r-preserved c = (
    ready-more c.loop-r.invariant (omega (
      arith,
      c.loop-r-test.true,
      c.requires.0.few,
    ))
    c.in-Ok.is c.seat_routine-seated.ensures
    c.seat_routine-seated.auto.ends
    c.seat_routine-seated.auto.successors
    )

pub shape_of-ends : goal.shape_of-ends
shape_of-ends c = c.loop-r.invariant.ends-long ∙ sym c.requires.1

pub shape_of-successors : goal.shape_of-successors
shape_of-successors c = c.loop-r.invariant.flow-long ∙ sym c.requires.2

pub returns : goal.returns
returns c = ready-all c.loop-r.invariant
    (omega (arith, c.loop-r.auto.r-end, c.requires.0.counted)) (omega
    (arith, c.loop-r-test.false, c.requires.0.counted))
