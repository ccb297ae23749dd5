use mathlib.Core.Path.{◌≡◌}
use lib.ListN.{length}
use Rattle.answers.specs.Answers.{reads}
use Rattle.seats.specs.SeatAt.{seat_at}
use Rattle.exports.specs.DispatchWords.{routine_words}
use Rattle.exports.proofs.dispatch.put_routines.Given as goal

abbrev pub invariant-loop-r : goal.invariant-loop-r
invariant-loop-r l = (l.answer ≡ routine_words (λ i. reads (seat_at l.seats i).outcome) l.r l.initial.answer)
    × (length l.answer ≡ length l.initial.answer)
