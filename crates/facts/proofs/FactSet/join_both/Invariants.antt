use Prim.Native.Nat.{◌-◌, ◌≤◌}
use mathlib.Core.Path.{◌≡◌}
use mathlib.Core.Bool.{false}
use lib.ListN.{get_or}
use Rattle.sums.specs.Numbers.{zero_var}
use Rattle.arrays.specs.TabulateLaws.{Filled}
use Rattle.facts.specs.Store.{row_at, joined_row}
use Rattle.facts.proofs.FactSet.join_both.Given as goal

abbrev pub invariant-loop-i : goal.invariant-loop-i
invariant-loop-i l = Filled l.next.rows l.initial.next.rows 17
    (λ n. joined_row (λ m. get_or l.pointers m false) n (row_at l.self n) (row_at l.other n) (row_at l.self zero_var) (row_at l.other zero_var)) l.i
    × (l.next.contradiction ≡ l.initial.next.contradiction) × (l.i ≤ 16)

abbrev pub decreases-loop-i : goal.decreases-loop-i
decreases-loop-i l = 16 - l.i
