-- `exports::set::put_set_outcome` meets its contract.
use native.Mathlib.Omega.{arith}
use Rattle.exports.specs.SetWordLaws.{named-fits, outcome-words}
use Rattle.exports.proofs.set.put_set_outcome.Goals as goal

pub overflow_cast-answer : goal.overflow_cast-answer
overflow_cast-answer c = omega (
  arith,
  named-fits c.args.ended.outcome c.routine_named.ensures
      c.requires.2,
)

pub returns : goal.returns
returns c = outcome-words _ _ c.put_outcome.ensures c.routine_named.ensures
