-- `exports::put_outcome` meets its contract.
use native.Mathlib.Omega.{arith}
use Rattle.exports.specs.WordLaws.{spent_fits, stopped-fits, not-begun-place, not-begun-pointer}
use Rattle.exports.specs.WordLaws.{done-words, spent-words, stopped-words, not-begun-words}
use Rattle.exports.proofs.put_outcome.Goals as goal

pub overflow_cast-place : goal.overflow_cast-place
overflow_cast-place c = omega (arith, spent_fits c.requires.1 c.in-Spent.is)

pub overflow_cast-place-in-Stopped : goal.overflow_cast-place-in-Stopped
overflow_cast-place-in-Stopped c = omega (arith, stopped-fits c.requires.1 c.in-Stopped.is c.statement-place.ensures)

pub overflow_cast-place-in-Refused : goal.overflow_cast-place-in-Refused
overflow_cast-place-in-Refused c = omega (
  arith,
  not-begun-place c.requires.1 c.in-Refused.is
      c.place-place.ensures,
)

pub overflow_cast-pointer : goal.overflow_cast-pointer
overflow_cast-pointer c = omega (
  arith,
  not-begun-pointer c.requires.1
      c.in-Refused.is c.pointer-pointer.ensures,
)

pub returns-in-Done : goal.returns-in-Done
returns-in-Done c = done-words _ c.in-Done.is c.put_four.ensures

pub returns-in-Spent : goal.returns-in-Spent
returns-in-Spent c = spent-words _ c.in-Spent.is c.put_four-in-Spent.ensures

pub returns-in-Stopped : goal.returns-in-Stopped
returns-in-Stopped c = stopped-words _ c.in-Stopped.is
    c.statement-place.ensures c.number-number.ensures
    c.put_four-in-Stopped.ensures

pub returns-in-Refused : goal.returns-in-Refused
returns-in-Refused c = not-begun-words _ c.in-Refused.is
    c.number-number-in-Refused.ensures c.place-place.ensures
    c.pointer-pointer.ensures c.put_four-in-Refused.ensures
