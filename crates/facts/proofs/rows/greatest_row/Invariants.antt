use Prim.Native.Nat.{◌-◌, max}
use Rattle.arrays.specs.TabulateLaws.{Filled}
use Rattle.facts.specs.Store.{in_row}
use Rattle.facts.proofs.rows.greatest_row.Given as goal

abbrev pub invariant-loop-j : goal.invariant-loop-j
invariant-loop-j l = Filled l.next.sums l.initial.next.sums 17 (λ n. max (in_row l.a n) (in_row l.b n)) l.j

abbrev pub decreases-loop-j : goal.decreases-loop-j
decreases-loop-j l = 17 - l.j
