use Prim.Native.Nat.{◌-◌}
use Rattle.arrays.specs.TabulateLaws.{Filled}
use Rattle.rules.specs.Stored.{effect_on}
use Rattle.bounds.proofs.bounds_after.Given as goal

abbrev pub invariant-loop-p : goal.invariant-loop-p
invariant-loop-p l = Filled l.next.each l.initial.next.each 16 (effect_on l.effect l.known.each) l.p

abbrev pub decreases-loop-p : goal.decreases-loop-p
decreases-loop-p l = 16 - l.p
