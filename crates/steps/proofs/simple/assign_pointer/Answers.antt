-- `steps::simple::assign_pointer` meets its contract.
use native.Mathlib.Omega.{arith}
use Rattle.steps.specs.AdvanceLaws.{goes_on, in-range, assigns-stop, assigns-call, assigns-go}
use Rattle.steps.proofs.simple.assign_pointer.Goals as goal

pub overflow_sub-values : goal.overflow_sub-values
overflow_sub-values c = omega (arith, in-range _ _ (goes_on _ _ _ _ _ c.check_arithmetic-arithmetic.ensures c.in-Go.is))

pub overflow_cast-values : goal.overflow_cast-values
overflow_cast-values c = omega (arith, in-range _ _ (goes_on _ _ _ _ _ c.check_arithmetic-arithmetic.ensures c.in-Go.is))

pub returns-in-Go : goal.returns-in-Go
returns-in-Go c = assigns-go c.check_arithmetic-arithmetic.ensures c.in-Go.is

pub returns-in-Stop : goal.returns-in-Stop
returns-in-Stop c = let e = c.check_arithmetic-arithmetic.ensures in grind (arith, assigns-stop, assigns-call)
