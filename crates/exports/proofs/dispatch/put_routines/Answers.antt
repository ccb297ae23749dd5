-- `exports::dispatch::put_routines` meets its contract: the words of the first r routines are put.
use mathlib.Core.Path.{◌∙◌}
use native.Mathlib.Omega.{arith}
use borrow.Author.Rules.{rules}
use Rattle.exports.specs.DispatchLaws.{routine-none, routine-more, routine-all}
use Rattle.exports.proofs.dispatch.put_routines.Goals as goal

pub loop-r-init : goal.loop-r-init
loop-r-init c = (routine-none _ _, search rules)

pub bounds-seats-r : goal.bounds-seats-r
bounds-seats-r c = omega (arith, c.loop-r-test.true, c.requires.0.0)

pub overflow_mul-r : goal.overflow_mul-r
overflow_mul-r c = omega (arith, c.loop-r-test.true, c.requires.0.0)

pub overflow_add-r : goal.overflow_add-r
overflow_add-r c = omega (arith, c.loop-r-test.true, c.requires.0.0)

pub put_outcome_at-requires : goal.put_outcome_at-requires
put_outcome_at-requires c = (
  omega (
    arith,
    c.loop-r-test.true,
    c.requires.0.0,
    c.requires.1,
    c.loop-r.invariant.1,
  ),
  c.requires.0.1 c.loop-r.r c.loop-r-test.true,
)

pub loop-r-preserved : goal.loop-r-preserved
loop-r-preserved c = (
  routine-more _ _ _ _ _ c.loop-r.invariant.0 c.put_outcome_at.ensures,
  c.answer-1.given ∙ c.loop-r.invariant.1,
)

pub shape_of-answer : goal.shape_of-answer
shape_of-answer c = c.loop-r.invariant.1

pub returns : goal.returns
returns c = routine-all _ _ _ _ _ c.loop-r.invariant.0 c.loop-r.auto.r-end c.loop-r-test.false
