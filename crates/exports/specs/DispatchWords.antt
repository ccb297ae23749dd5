-- What `mizzengrape_dispatch` answers, as words in a lent slice (include/mizzengrape.h).
use Rattle.std.specs.Prelude.{ℕ, zero, suc, ◌+◌, ◌*◌, ◌≡◌, Bool, true, false, ◌&&◌, List, ◌++◌, leb, length, set, take, drop}
use Rattle.answers.specs.Refusals.{number, place, pointer}
use Rattle.answers.specs.Answers.{Answer, reads}
use Rattle.answers.specs.declared.stops.Outcome.{Outcome}
use Rattle.seats.specs.Lends.{Lends, count_of}
use Rattle.dispatcher.specs.Dispatch.{Promised, room_right}
use Rattle.dispatcher.specs.declared.Said.{Said}
use Rattle.dispatcher.specs.declared.Said.TheVariants as said
use Rattle.exports.specs.Words.{put_four, answer_words}

abbrev pub put_five : List ℕ → ℕ → ℕ → ℕ → ℕ → ℕ → List ℕ
put_five w a b c d e = set (put_four w a b c d) 4 e

-- Four words a routine, "as mizzengrape_run answers them": those of routine r from index 5 + 4 r on. The words behind stay.
unfoldable pub routine_words : (ℕ → Answer) → ℕ → List ℕ → List ℕ
routine_words answers zero w = w
routine_words answers (suc r) w =
    let v = routine_words answers r w in
    take (5 + 4 * r) v ++ answer_words (answers r) (drop (5 + 4 * r) v)

-- 0 ran: the number of routines, then the words of each. 3 refused: the refusal's number, the routine, the place, the pointer; 15 gives place 0, 14 the
-- routine. n is the number of routines.
unfoldable pub dispatch_words : Said → (ℕ → Answer) → ℕ → List ℕ → List ℕ
dispatch_words said.NoRoom answers n w = w
dispatch_words said.WrongCount answers n w = put_five w 3 15 0 0 0
dispatch_words (said.Refused r f) answers n w = put_five w 3 (number f) r (place f) (pointer f)
dispatch_words (said.Overlaps r) answers n w = put_five w 3 14 r r 0
dispatch_words said.Ran answers n w = routine_words answers n (put_five w 0 n 0 0 0)

-- Where there is room, the words of what is said and of outcomes for which, with the values and cells then, the promise of `dispatch` holds; else nothing is
-- written.
abbrev pub DispatchedIf : Bool → Lends → ℕ → ℕ → List ℕ → List ℕ → List ℕ → List ℕ → Type 0
DispatchedIf true l quantum total w vs cs w' =
    (s : Said) × (outcomes : ℕ → Outcome) × Promised true l quantum total s outcomes vs cs
    × (w' ≡ dispatch_words s (λ r. reads (outcomes r)) (count_of l) w)
DispatchedIf false l quantum total w vs cs w' = (vs ≡ l.values) × (cs ≡ l.cells) × (w' ≡ w)

-- ends, S: the room that is lent for the set-up; w: the words that are lent for the answer, as they were; vs, cs and w': what values, cells and words hold
-- then.
pub record DispatchAnswer (l : Lends) (quantum total : ℕ) (ends S w : List ℕ) (r : Bool) (vs cs w' : List ℕ) : Type 0 where
  pub room : r ≡ (leb 37 (length w) && room_right ends S)
  pub words : DispatchedIf (leb 37 (length w) && room_right ends S) l quantum total w vs cs w'
