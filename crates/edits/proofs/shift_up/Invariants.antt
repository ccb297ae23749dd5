use Prim.Native.Nat.{◌+◌, ◌-◌, ◌≤◌}
use lib.IntN.{pos}
use lib.ListN.{get_or}
use Rattle.arrays.specs.Overwritten.{Overwritten}
use Rattle.edits.proofs.shift_up.Given as goal

abbrev pub invariant-loop-i : goal.invariant-loop-i
invariant-loop-i l = Overwritten (pos 0) l.initial.words l.i (l.end - l.i) (λ j. get_or l.initial.words (l.i + j - l.by) (pos 0)) l.words × (l.first ≤ l.i)
