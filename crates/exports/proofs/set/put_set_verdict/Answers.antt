-- `exports::set::put_set_verdict` meets its contract.
use native.Mathlib.Omega.{arith}
use borrow.Author.Rules.{rules}
use Rattle.exports.specs.SetWordLaws.{refused-fits, routine-fits, accepted-set, refused-set}
use Rattle.exports.proofs.set.put_set_verdict.Goals as goal

pub put_verdict-requires-in-Err : goal.put_verdict-requires-in-Err
put_verdict-requires-in-Err c = (search rules, refused-fits c.in-Err.is c.requires.1)

pub overflow_cast-answer : goal.overflow_cast-answer
overflow_cast-answer c = omega (
  arith,
  routine-fits c.in-Err.is
      c.requires.2,
)

pub returns-in-Ok : goal.returns-in-Ok
returns-in-Ok c = accepted-set _ c.in-Ok.is c.put_verdict.ensures

pub returns-in-Err : goal.returns-in-Err
returns-in-Err c = refused-set _ c.in-Err.is c.put_verdict-in-Err.ensures
