use Prim.Native.Nat.{◌-◌, ◌≤◌}
use Rattle.arrays.specs.TabulateLaws.{Filled}
use Rattle.facts.specs.Store.{in_row}
use Rattle.facts.proofs.rows.sums_of.Given as goal

abbrev pub invariant-loop-j : goal.invariant-loop-j
invariant-loop-j l = Filled l.next l.initial.next 17 (in_row l.row) l.j × (l.j ≤ 16)

abbrev pub decreases-loop-j : goal.decreases-loop-j
decreases-loop-j l = 16 - l.j
