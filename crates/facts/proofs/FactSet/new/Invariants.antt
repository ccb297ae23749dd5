use Prim.Native.Nat.{◌-◌}
use mathlib.Core.Path.{◌≡◌}
use Rattle.arrays.specs.TabulateLaws.{Filled}
use Rattle.facts.specs.Store.{new_row}
use Rattle.facts.proofs.FactSet.new.Given as goal

abbrev pub invariant-loop-i : goal.invariant-loop-i
invariant-loop-i l = Filled l.next.rows l.initial.next.rows 17 new_row l.i × (l.next.contradiction ≡ l.initial.next.contradiction)

abbrev pub decreases-loop-i : goal.decreases-loop-i
decreases-loop-i l = 17 - l.i
