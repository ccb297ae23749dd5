-- `facts::rows::through_zero` meets its contract: each turn fills one more sum, and the last stays.
use Prim.Native.Nat.{◌-◌}
use borrow.Author.Rules.{rules}
use Rattle.facts.specs.StoreLoops.{routing-none, routing-mixed, routing-alike, routing-done}
use Rattle.facts.proofs.rows.through_zero.Goals as goal
use Rattle.facts.proofs.rows.through_zero.Goals.{else-pointers-j, then-pointers-j}

pub loop-j-init : goal.loop-j-init
loop-j-init c = routing-none (search rules)

pub loop-j-preserved : goal.loop-j-preserved
loop-j-preserved c = elim c.if-pointers-j.branch [
  | then-pointers-j w ↦ routing-mixed c.loop-j.invariant (search rules) w.if-pointers-j.true w.concat.ensures w.next-is
  | else-pointers-j w ↦ routing-alike c.loop-j.invariant (search rules) w.if-pointers-j.false w.next-is
]

pub returns : goal.returns
returns c = routing-done c.loop-j.invariant c.loop-j-test.false
