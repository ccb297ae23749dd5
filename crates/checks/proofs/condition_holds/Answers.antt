-- `checks::condition_holds` meets its contract.
use native.Mathlib.Omega.{arith}
use Rattle.machine.specs.Machine.{condition_holds}
use Rattle.checks.proofs.condition_holds.Goals as goal

pub overflow_add-slot : goal.overflow_add-slot
unfolding condition_holds
overflow_add-slot c = omega (arith, c.slot-2.ensures.small, c.requires.0)

pub returns : goal.returns
unfolding condition_holds
returns c = rw (c.slot.ensures.value, c.slot-2.ensures.value) at c.relates.ensures
