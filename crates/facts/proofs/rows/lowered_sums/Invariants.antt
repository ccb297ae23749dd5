use Prim.Native.Nat.{◌-◌, min}
use Rattle.arrays.specs.TabulateLaws.{Filled}
use Rattle.sums.specs.Sums.{concatenated}
use Rattle.facts.specs.Store.{row_with, in_row}
use Rattle.facts.proofs.rows.lowered_sums.Given as goal

abbrev pub invariant-loop-j : goal.invariant-loop-j
invariant-loop-j l = Filled l.next l.initial.next 17 (λ n. min (in_row (row_with l.row) n) (concatenated l.start (in_row (row_with l.through) n))) l.j

abbrev pub decreases-loop-j : goal.decreases-loop-j
decreases-loop-j l = 17 - l.j
