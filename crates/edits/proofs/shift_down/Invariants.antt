use Prim.Native.Nat.{◌+◌, ◌-◌}
use lib.IntN.{pos}
use lib.ListN.{get_or}
use Rattle.arrays.specs.Overwritten.{Overwritten}
use Rattle.edits.proofs.shift_down.Given as goal

abbrev pub invariant-loop-i : goal.invariant-loop-i
invariant-loop-i l = Overwritten (pos 0) l.initial.words l.first (l.i - l.first) (λ j. get_or l.initial.words (l.first + j + l.by) (pos 0)) l.words
