use Prim.Native.Nat.{◌+◌, ◌-◌}
use lib.IntN.{pos}
use Rattle.arrays.specs.Overwritten.{Overwritten}
use Rattle.edits.specs.Edited.{edited_word}
use Rattle.edits.proofs.fill_edited.Given as goal

abbrev pub invariant-loop-i : goal.invariant-loop-i
invariant-loop-i l = Overwritten (pos 0) l.initial.out l.first (l.i - l.first)
    (λ n. edited_word l.table l.sections l.at l.removed l.added l.text (l.first + n)) l.out
