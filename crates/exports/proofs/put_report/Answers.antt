-- `exports::put_report` meets its contract.
use Prim.Native.Nat.{◌≤◌}
use mathlib.Core.Path.{refl}
use lib.ListN.{length}
use native.Mathlib.Omega.{arith}
use Rattle.exports.specs.Numbers.{putting-none, putting-more, putting-all}
use Rattle.exports.proofs.put_report.Goals as goal

pub loop-at-init : goal.loop-at-init
loop-at-init c = putting-none _ _

pub put_reported-count-requires : goal.put_reported-count-requires
put_reported-count-requires c = (
  c.loop-at-test.true,
  c.loop-at.invariant.fewer,
  let q : 1024 ≤ length c.loop-at.numbers = omega
      (arith, c.loop-at.invariant.long, c.requires) in q,
)

pub loop-at-preserved : goal.loop-at-preserved
loop-at-preserved c = putting-more c.loop-at.invariant c.loop-at-test.true
    c.put_reported-count.ensures

pub overflow_cast-result : goal.overflow_cast-result
overflow_cast-result c = record { fits = omega (arith, c.loop-at.invariant.fewer, c.loop-at.invariant.within) }

pub shape_of-numbers : goal.shape_of-numbers
shape_of-numbers c = c.loop-at.invariant.long

pub returns : goal.returns
returns c = putting-all c.loop-at.invariant c.loop-at-test.false refl
