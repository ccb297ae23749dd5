-- `machine::scaled` meets its contract.
use Prim.Native.Nat.{◌*◌, ◌-◌, ◌^◌, ◌≤◌}
use mathlib.Core.Path.{refl}
use native.Mathlib.Omega.{arith}
use borrow.Author.Rules.{rules}
use Rattle.sums.specs.Scale.{scale_small}
use Rattle.machine.proofs.scaled.Goals as goal

pub overflow_mul-result : goal.overflow_mul-result
overflow_mul-result c = let p : c.args.size * c.args.value ≤ 8 * (2 ^ 32 - 1) = scale_small c.args.size c.args.value (2 ^ 32 - 1) c.requires.0
    (omega (arith, c.requires.1)) in search rules

pub returns-clause-value : goal.returns-clause-value
returns-clause-value c = let p : c.args.size * c.args.value ≤ 8 * (2 ^ 32 - 1) = scale_small c.args.size c.args.value (2 ^ 32 - 1) c.requires.0
    (omega (arith, c.requires.1)) in refl

pub returns-clause-small : goal.returns-clause-small
returns-clause-small c = let p : c.args.size * c.args.value ≤ 8 * (2 ^ 32 - 1) = scale_small c.args.size c.args.value (2 ^ 32 - 1) c.requires.0
    (omega (arith, c.requires.1)) in omega arith
