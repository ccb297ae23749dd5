-- `parts::length_of` meets its contract.
use Prim.Native.Nat.{◌*◌, ◌≤◌}
use native.Mathlib.Nat.{mul-le-mul}
use native.Mathlib.Omega.{arith}
use Rattle.parts.specs.PartsLaws.{length-at}
use Rattle.parts.proofs.length_of.Goals as goal

pub overflow_mul-kinds : goal.overflow_mul-kinds
overflow_mul-kinds c = let l : c.args.kinds * c.args.r ≤ 5 * 8 = mul-le-mul {m₂ = 8} c.requires.0 (omega (arith, c.requires.2))
    in record { fits = omega (arith, l) }

pub overflow_add-kinds : goal.overflow_add-kinds
overflow_add-kinds c = let l : c.args.kinds * c.args.r ≤ 5 * 8 = mul-le-mul {m₂ = 8} c.requires.0 (omega (arith, c.requires.2))
    in record { fits = omega (arith, l, c.requires.1) }

pub returns-clause-value : goal.returns-clause-value
returns-clause-value c = length-at _ _ _ _ _ c.length_at.ensures.0

pub returns-clause-small : goal.returns-clause-small
returns-clause-small c = c.length_at.ensures.1
