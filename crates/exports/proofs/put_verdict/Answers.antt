-- `exports::put_verdict` meets its contract.
use native.Mathlib.Omega.{arith}
use Rattle.exports.specs.WordLaws.{place-fits, pointer-fits, accepted-words, refused-words}
use Rattle.exports.proofs.put_verdict.Goals as goal

pub overflow_cast-place : goal.overflow_cast-place
overflow_cast-place c = omega (
  arith,
  place-fits c.in-Err.is c.requires.1
      c.place-place.ensures,
)

pub overflow_cast-pointer : goal.overflow_cast-pointer
overflow_cast-pointer c = omega (
  arith,
  pointer-fits c.in-Err.is c.requires.1
      c.pointer-pointer.ensures,
)

pub returns-in-Ok : goal.returns-in-Ok
returns-in-Ok c = accepted-words _ c.in-Ok.is c.put_three.ensures

pub returns-in-Err : goal.returns-in-Err
returns-in-Err c = refused-words _ c.in-Err.is
    c.number-number.ensures
    c.place-place.ensures c.pointer-pointer.ensures
    c.put_three-in-Err.ensures
