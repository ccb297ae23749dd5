-- `sets::check_numbered` meets its contract.
use mathlib.Core.Path.{sym}
use native.Mathlib.Omega.{arith}
use Rattle.sets.specs.TableLaws.{lengths-taken}
use Rattle.sets.specs.CheckedLaws.{judged-first, first-right, judged-later}
use Rattle.sets.proofs.check_numbered.Goals as goal

pub span_of-own-requires : goal.span_of-own-requires
span_of-own-requires c = (omega arith, omega arith, omega (arith, c.requires.0, c.requires.1))

pub returns-then-n-eq0-clause-routine_judged : goal.returns-then-n-eq0-clause-routine_judged
returns-then-n-eq0-clause-routine_judged c = judged-first _ _ _ c.requires.0 c.span_of-own.ensures.value
    c.if-n-eq0.true c.check_routine.ensures

pub span_of-first-requires : goal.span_of-first-requires
span_of-first-requires c = (omega arith, omega arith, omega arith)

pub slice_bounds-check_later-end-3 : goal.slice_bounds-check_later-end-3
slice_bounds-check_later-end-3 c = sym (lengths-taken _ _ (omega (arith, c.requires.0)))

pub check_later-requires : goal.check_later-requires
check_later-requires c = (
  first-right _ _ _ c.requires.0 c.span_of-own.ensures.value c.requires.1 c.requires.3
      c.if-n-eq0.false
      c.span_of-first.ensures.value,
  c.requires.2,
)

pub shape_of-member : goal.shape_of-member
shape_of-member c = c.check_later.ensures.long

pub returns-clause-routine_judged : goal.returns-clause-routine_judged
returns-clause-routine_judged c = judged-later _ _ _ c.requires.0 c.span_of-own.ensures.value c.requires.1 c.requires.3
    c.if-n-eq0.false c.span_of-first.ensures.value
    c.check_later.ensures.value

pub returns-clause-long : goal.returns-clause-long
returns-clause-long c = c.check_later.ensures.long
