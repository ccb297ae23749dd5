-- `sets::check_set` meets its contract.
use Prim.Native.Nat.{◌-◌}
use mathlib.Core.Path.{refl, ◌∙◌}
use native.Mathlib.Omega.{arith}
use Rattle.sets.specs.CheckedLaws.{no_room, wrong-few, wrong-many, answer-refused, answer-accepted, earlier_more}
use Rattle.sets.proofs.check_set.Goals as goal

pub returns-then-member-lt7720 : goal.returns-then-member-lt7720
returns-then-member-lt7720 c = no_room _ _ _ c.if-member-lt7720.true

pub returns-then-count-lt1 : goal.returns-then-count-lt1
returns-then-count-lt1 c = wrong-few _ _ _ c.if-member-lt7720.false c.if-count-lt1.true

pub returns-then-count-gt8 : goal.returns-then-count-gt8
returns-then-count-gt8 c = wrong-many _ _ _ c.if-member-lt7720.false c.if-count-lt1.false c.if-count-gt8.true

pub loop-n-init : goal.loop-n-init
loop-n-init c = ((λ m l. absurd (omega arith)), refl)

pub check_numbered-verdict-requires : goal.check_numbered-verdict-requires
check_numbered-verdict-requires c = (
  c.loop-n-test.true,
  c.if-count-gt8.false,
  omega
      (arith, c.loop-n.invariant.1, c.if-member-lt7720.false),
  c.loop-n.invariant.0,
)

pub shape_of-member-in-Err : goal.shape_of-member-in-Err
shape_of-member-in-Err c = c.check_numbered-verdict.ensures.long ∙ c.loop-n.invariant.1

pub returns-in-Err : goal.returns-in-Err
returns-in-Err c = answer-refused _ _ _ c.if-member-lt7720.false
    c.if-count-lt1.false
    c.if-count-gt8.false _ _
    c.loop-n-test.true c.loop-n.invariant.0
    c.check_numbered-verdict.ensures.routine_judged c.in-Err.is

pub loop-n-preserved : goal.loop-n-preserved
loop-n-preserved c = (
  earlier_more _ _ c.loop-n.invariant.0 c.check_numbered-verdict.ensures.routine_judged
      c.in-Ok.is,
  c.check_numbered-verdict.ensures.long
      ∙ c.loop-n.invariant.1,
)

pub shape_of-member : goal.shape_of-member
shape_of-member c = c.loop-n.invariant.1

pub returns : goal.returns
returns c = answer-accepted _ _ _ c.if-member-lt7720.false c.if-count-lt1.false c.if-count-gt8.false _
    c.loop-n-test.false c.loop-n.invariant.0
