-- `bounds::transfer::effect_on` meets its contract, effect by effect.
use borrow.Author.Tests.{eq-eqb, ne_eqb}
use Rattle.bounds.proofs.transfer.effect_on.Goals as goal

pub returns-then-p-target : goal.returns-then-p-target
returns-then-p-target c = simp (c.in-Copy.is, eq-eqb _ _ c.if-p-target.true) c.forget_bounds-then-p-target.ensures

pub object_bounds-requires : goal.object_bounds-requires
object_bounds-requires c = rw c.in-Object.is at c.requires

pub returns-then-p-target-2 : goal.returns-then-p-target-2
returns-then-p-target-2 c = simp (c.in-Object.is, eq-eqb _ _ c.if-p-target-2.true) c.object_bounds.ensures

pub returns-in-Forget : goal.returns-in-Forget
returns-in-Forget c = simp c.in-Forget.is c.forget_bounds.ensures

pub returns-in-Shift : goal.returns-in-Shift
returns-in-Shift c = simp c.in-Shift.is c.shift_bounds.ensures

pub returns-else-p-target : goal.returns-else-p-target
returns-else-p-target c = simp (c.in-Copy.is, ne_eqb _ _ c.if-p-target.false) c.forget_bounds-in-Copy.ensures

pub returns-else-p-target-2 : goal.returns-else-p-target-2
returns-else-p-target-2 c = simp (c.in-Object.is, ne_eqb _ _ c.if-p-target-2.false) c.forget_bounds-in-Object.ensures
