use lib.IntN.{pos}
use lib.ListN.{get_or}
use Rattle.arrays.specs.Overwritten.{Overwritten}
use Rattle.edits.proofs.put_text.Given as goal

abbrev pub invariant-loop-i : goal.invariant-loop-i
invariant-loop-i l = Overwritten (pos 0) l.initial.words l.first l.i (λ j. get_or l.text j (pos 0)) l.words
