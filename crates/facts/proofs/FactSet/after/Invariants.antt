use Prim.Native.Nat.{◌-◌}
use mathlib.Core.Path.{◌≡◌}
use mathlib.Core.List.{[]}
use lib.ListN.{get_or}
use Rattle.arrays.specs.TabulateLaws.{Filled}
use Rattle.facts.specs.Store.{row_with}
use Rattle.facts.specs.StoreLoops.{Lowering, Told}
use Rattle.facts.specs.Grid.{set_with, Loading, Rerouting}
use Rattle.facts.proofs.FactSet.after.Given as goal

abbrev pub invariant-loop-i : goal.invariant-loop-i
invariant-loop-i l = Loading l.self l.initial.sums l.sums l.i

abbrev pub decreases-loop-i : goal.decreases-loop-i
decreases-loop-i l = 17 - l.i

abbrev pub invariant-loop-i-then-base-lt17 : goal.invariant-loop-i-then-base-lt17
invariant-loop-i-then-base-lt17 l = Rerouting l.initial.sums l.mark l.target l.base l.change.down l.sums l.i

abbrev pub decreases-loop-i-then-base-lt17 : goal.decreases-loop-i-then-base-lt17
decreases-loop-i-then-base-lt17 l = 17 - l.i

abbrev pub invariant-loop-i-else-concat-lt-BIAS : goal.invariant-loop-i-else-concat-lt-BIAS
invariant-loop-i-else-concat-lt-BIAS l = Lowering l.x l.y l.k (row_with l.through) (set_with l.initial.sums l.mark) (set_with l.sums l.mark) l.i

abbrev pub decreases-loop-i-else-concat-lt-BIAS : goal.decreases-loop-i-else-concat-lt-BIAS
decreases-loop-i-else-concat-lt-BIAS l = 17 - l.i

abbrev pub invariant-loop-n : goal.invariant-loop-n
invariant-loop-n l = Told l.facts (set_with l.initial.sums l.initial.mark) (set_with l.sums l.mark) l.n

abbrev pub decreases-loop-n : goal.decreases-loop-n
decreases-loop-n l = 3 - l.n

abbrev pub invariant-loop-i-2 : goal.invariant-loop-i-2
invariant-loop-i-2 l = Filled l.next.rows l.initial.next.rows 17 (λ n. row_with (get_or l.sums n [])) l.i × (l.next.contradiction ≡ l.mark)

abbrev pub decreases-loop-i-2 : goal.decreases-loop-i-2
decreases-loop-i-2 l = 17 - l.i
