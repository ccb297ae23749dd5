-- `exports::dispatch::put_said` meets its contract.
use native.Mathlib.Omega.{arith}
use Rattle.exports.specs.DispatchLaws.{routine-fits, place-fits, pointer-fits, overlap-fits, ran-fits}
use Rattle.exports.specs.DispatchLaws.{no-room-said, wrong-count-said, refused-said, overlaps-said, ran-said}
use Rattle.exports.proofs.dispatch.put_said.Goals as goal

pub returns-in-NoRoom : goal.returns-in-NoRoom
returns-in-NoRoom c = no-room-said _ _ _ c.in-NoRoom.is

pub overflow_cast-place : goal.overflow_cast-place
overflow_cast-place c = omega (
  arith,
  place-fits _ _ c.requires.0 c.in-Refused.is
      c.place-place.ensures,
)

pub overflow_cast-pointer : goal.overflow_cast-pointer
overflow_cast-pointer c = omega (
  arith,
  pointer-fits _ _ c.requires.0 c.in-Refused.is
      c.pointer-pointer.ensures,
)

pub overflow_cast-routine : goal.overflow_cast-routine
overflow_cast-routine c = omega (
  arith,
  routine-fits _ _ c.requires.0
      c.in-Refused.is,
)

pub overflow_cast-place-in-Overlaps : goal.overflow_cast-place-in-Overlaps
overflow_cast-place-in-Overlaps c = omega (arith, overlap-fits _ _ c.requires.0 c.in-Overlaps.is)

pub overflow_cast-count : goal.overflow_cast-count
overflow_cast-count c = omega (arith, (ran-fits _ _ c.requires.0 c.in-Ran.is).0)

pub put_routines-requires : goal.put_routines-requires
put_routines-requires c = (
  ran-fits _ _ c.requires.0
      c.in-Ran.is,
  omega (arith, c.answer-in-Ran-1.given, c.requires.1),
)

pub returns-in-WrongCount : goal.returns-in-WrongCount
returns-in-WrongCount c = wrong-count-said _ _ _ c.in-WrongCount.is c.put_five.ensures

pub returns-in-Refused : goal.returns-in-Refused
returns-in-Refused c = refused-said _ _ _ c.in-Refused.is
    c.number-number.ensures c.place-place.ensures
    c.pointer-pointer.ensures c.put_five-in-Refused.ensures

pub returns-in-Overlaps : goal.returns-in-Overlaps
returns-in-Overlaps c = overlaps-said _ _ _ c.in-Overlaps.is c.put_five-in-Overlaps.ensures

pub returns-in-Ran : goal.returns-in-Ran
returns-in-Ran c = ran-said _ _ _ c.in-Ran.is
    c.put_five-in-Ran.ensures c.put_routines.ensures
