use mathlib.Core.Bool.{cond}
use Prim.Native.Nat.{◌-◌}
use lib.Dec.{eqb}
use Rattle.sums.specs.Numbers.{bias}
use Rattle.arrays.specs.TabulateLaws.{Filled}
use Rattle.sums.specs.Sums.{concatenated}
use Rattle.facts.specs.Store.{row_with, in_row}
use Rattle.facts.proofs.rows.own_sums.Given as goal

abbrev pub invariant-loop-j : goal.invariant-loop-j
invariant-loop-j l = Filled l.next l.initial.next 17 (λ n. cond (eqb n l.x) bias (concatenated l.up (in_row (row_with l.base) n))) l.j

abbrev pub decreases-loop-j : goal.decreases-loop-j
decreases-loop-j l = 17 - l.j
