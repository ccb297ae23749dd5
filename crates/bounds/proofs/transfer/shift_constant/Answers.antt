-- `bounds::transfer::shift_constant` meets its contract.
use borrow.Author.Rules.{rules}
use Rattle.sums.specs.Scale.{scale_small}
use borrow.Author.Tests.{lt-ltb, le-ltb, le-leb, lt-leb}
use Rattle.rules.specs.Stored.{shift_constant}
use Prim.Native.Nat.{◌*◌, ◌^◌, ◌≤◌}
use native.Mathlib.Omega.{arith}
use Rattle.bounds.proofs.transfer.shift_constant.Goals as goal

pub returns-then-weight-gt8 : goal.returns-then-weight-gt8
unfolding shift_constant
returns-then-weight-gt8 c = simp (lt-leb _ _ c.if-weight-gt8.true)

pub returns-then-k-ge-LIMIT : goal.returns-then-k-ge-LIMIT
unfolding shift_constant
returns-then-k-ge-LIMIT c = simp (le-leb _ _ c.if-weight-gt8.false, le-ltb _ _ c.if-k-ge-LIMIT.true)

pub returns-then-end-ge-LIMIT : goal.returns-then-end-ge-LIMIT
unfolding shift_constant
returns-then-end-ge-LIMIT c = simp (le-leb _ _ c.if-weight-gt8.false, lt-ltb _ _ c.if-k-ge-LIMIT.false, le-ltb _ _ c.if-end-ge-LIMIT.true)

pub overflow_mul-moved : goal.overflow_mul-moved
unfolding shift_constant
overflow_mul-moved c = let p : c.args.weight * c.args.k ≤ 8 * 2 ^ 40 = scale_small c.args.weight c.args.k (2 ^ 40)
    c.if-weight-gt8.false (omega (arith, c.if-k-ge-LIMIT.false)) in search rules

pub returns-then-moved-raised : goal.returns-then-moved-raised
unfolding shift_constant
returns-then-moved-raised c = simp (
  le-leb _ _ c.if-weight-gt8.false,
  lt-ltb _ _ c.if-k-ge-LIMIT.false,
  lt-ltb _ _
      c.if-end-ge-LIMIT.false,
  lt-leb _ _ c.if-moved-raised.true,
)

pub returns : goal.returns
unfolding shift_constant
returns c = simp (
  le-leb _ _ c.if-weight-gt8.false,
  lt-ltb _ _ c.if-k-ge-LIMIT.false,
  lt-ltb _ _
      c.if-end-ge-LIMIT.false,
  le-leb _ _ c.if-moved-raised.false,
)
