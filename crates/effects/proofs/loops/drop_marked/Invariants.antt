use Prim.Native.Nat.{◌-◌, ◌≤◌}
use mathlib.Core.Path.{◌≡◌}
use mathlib.Core.Bool.{false}
use lib.ListN.{get_or}
use Rattle.rules.specs.Stored.{dropped_each}
use Rattle.effects.proofs.loops.drop_marked.Given as goal

abbrev pub invariant-loop-v : goal.invariant-loop-v
invariant-loop-v l = (l.facts ≡ dropped_each l.v (λ n. get_or l.marks.each n false) l.initial.facts) × (l.v ≤ 16)

abbrev pub decreases-loop-v : goal.decreases-loop-v
decreases-loop-v l = 16 - l.v
