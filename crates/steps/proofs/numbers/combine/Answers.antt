-- `steps::numbers::combine` meets its contract.
use native.Mathlib.Omega.{arith}
use Rattle.machine.specs.Machine.{combined}
use Rattle.steps.specs.NumberLaws.{product_small, combined-else}
use Rattle.steps.proofs.numbers.combine.Goals as goal

pub overflow_mul-result : goal.overflow_mul-result
unfolding combined
overflow_mul-result c = record { fits = product_small _ _ (omega arith) (omega arith) }

pub returns-in-0 : goal.returns-in-0
unfolding combined
returns-in-0 c = rw (c.in-0.is, c.from.ensures, c.from-in-0.ensures)

pub returns-in-1 : goal.returns-in-1
unfolding combined
returns-in-1 c = rw (c.in-1.is, c.from-in-1.ensures, c.from-in-1-2.ensures)

pub returns-in_default : goal.returns-in_default
unfolding combined
returns-in_default c = rw (c.from-in_default.ensures, c.from-in_default-2.ensures)
    (combined-else _ _ _ c.in_default.in_default-own.rest.0.1 c.in_default.in_default-own.rest.1)
