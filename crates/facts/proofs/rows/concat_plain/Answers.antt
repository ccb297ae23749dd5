-- `facts::rows::concat_plain` meets its contract: a sum in range neither wraps nor falls below the least.
use native.Mathlib.Omega.{arith}
use Rattle.facts.specs.PlainLaws.{plain-above, plain-below, plain-sum}
use Rattle.facts.proofs.rows.concat_plain.Goals as goal

pub overflow_add-result : goal.overflow_add-result
overflow_add-result c = record { fits = omega (arith, plain-below c.requires.0, plain-below c.requires.1) }

pub overflow_sub-result : goal.overflow_sub-result
overflow_sub-result c = omega (arith, plain-above c.requires.0, plain-above c.requires.1)

pub returns : goal.returns
returns c = plain-sum _ _ c.requires.0 c.requires.1
