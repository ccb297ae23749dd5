use Prim.Native.Nat.{◌-◌}
use Rattle.facts.specs.StoreLoops.{Routing}
use Rattle.facts.proofs.rows.through_zero.Given as goal

abbrev pub invariant-loop-j : goal.invariant-loop-j
invariant-loop-j l = Routing l.pointers l.pointer l.initial.next l.to l.zero l.next l.j

abbrev pub decreases-loop-j : goal.decreases-loop-j
decreases-loop-j l = 16 - l.j
