-- The words of a dispatcher's answer, as the code puts them.
use Rattle.std.specs.Prelude.{ℕ, ◌+◌, ◌-◌, ◌*◌, ◌^◌, ◌≤◌, ◌<◌, ◌≡◌, refl, Bool, true, ◌&&◌, List, [], ◌++◌, leb, length, take, drop}
use Rattle.std.proofs.Math.Path.{sym}
use Rattle.std.proofs.Common.{ap, ◌∙◌, append-nil, arith, add-one, le-leb, length-drop, drop_of_length-le, take_all}
use Rattle.std.proofs.Math.Bool.{false}
use Rattle.std.proofs.lemmas.Bool.{lt-leb}
use borrow.Rule.Slice.PartMut.{put_mid}
use Rattle.answers.specs.Answers.{Answer, reads}
use Rattle.answers.specs.declared.stops.Outcome.{Outcome}
use Rattle.answers.specs.Refusals.{number, place, pointer}
use Rattle.answers.specs.declared.refusals.Refusal.{Refusal}
use Rattle.interpreter.specs.SmallLaws.{AnswerSmall, run_small}
use Rattle.seats.specs.Lends.{Lends, table_at, listed_at, lent_to, count_of}
use Rattle.dispatcher.specs.Dispatch.{Promised, room_right}
use Rattle.dispatcher.specs.DispatchLaws.{count-facts}
use Rattle.dispatcher.specs.declared.Said.{Said}
use Rattle.dispatcher.specs.declared.Said.TheVariants as said
use Rattle.exports.specs.Words.{answer_words}
use Rattle.exports.specs.DispatchWords.{put_five, routine_words, dispatch_words, DispatchAnswer}

-- ---- in the words of the code

-- The four words of an answer from index i on.
abbrev pub put_at : ℕ → Answer → List ℕ → List ℕ
put_at i a w = take i w ++ answer_words a (drop i w)

-- The numbers that are put are small: of the routines that ran, which are few, and of what is said.
abbrev pub AllSmall : (ℕ → Answer) → ℕ → Type 0
AllSmall f n = (n ≤ 8) × ((r : ℕ) → r < n → AnswerSmall (f r))

unfoldable pub SaidSmall : Said → (ℕ → Answer) → ℕ → Type 0
SaidSmall said.NoRoom f n = Unit {0}
SaidSmall said.WrongCount f n = Unit {0}
SaidSmall (said.Refused r g) f n = (r < 2 ^ 32) × (place g < 2 ^ 32) × (pointer g < 2 ^ 32)
SaidSmall (said.Overlaps r) f n = r < 2 ^ 32
SaidSmall said.Ran f n = AllSmall f n

abbrev pub is_answered : Said → Bool
is_answered said.NoRoom = false
is_answered said.WrongCount = true
is_answered (said.Refused r f) = true
is_answered (said.Overlaps r) = true
is_answered said.Ran = true

-- ---- the words of routines, one after the other

-- What comes back of the words from index i on.
pub tail-put : (i : ℕ) (a : Answer) (w ys : List ℕ) → ys ≡ answer_words a (take (length w - i) (drop i w)) → put_mid i (length w - i) w ys ≡ put_at i a w
tail-put i a w ys e =
    let n : length (drop i w) ≤ length w - i = omega (arith, length-drop i w) in
    let t : take (length w - i) (drop i w) ≡ drop i w = take_all (length w - i) (drop i w) n in
    let z : drop (length w - i) (drop i w) ≡ [] = drop_of_length-le (drop i w) {i = length w - i} n in
    rw (z, append-nil ys, e, t) refl

pub routine-none : (f : ℕ → Answer) (w : List ℕ) → w ≡ routine_words f 0 w
unfolding routine_words
routine-none f w = refl

pub routine-more : (f : ℕ → Answer) (r : ℕ) (w v u : List ℕ) → v ≡ routine_words f r w → u ≡ put_at (5 + 4 * r) (f r) v → u ≡ routine_words f (r + 1) w
unfolding routine_words
routine-more f r w v u e p = p ∙ rw (add-one r, e) refl

pub routine-all : (f : ℕ → Answer) (r n : ℕ) (w v : List ℕ) → v ≡ routine_words f r w → r ≤ n → n ≤ r → v ≡ routine_words f n w
routine-all f r n w v e a b = let q : r ≡ n = omega arith in e ∙ ap (λ (k : ℕ). routine_words f k w) q

-- ---- what is said

pub no-room-said : (f : ℕ → Answer) (n : ℕ) (w : List ℕ) {s : Said} → s ≡ said.NoRoom → (false ≡ is_answered s) × (w ≡ dispatch_words s f n w)
unfolding dispatch_words
no-room-said f n w e = rw e (refl, refl)

module _ (f : ℕ → Answer) (n : ℕ) (w : List ℕ) {w' : List ℕ} where
  pub wrong-count-said : {s : Said} → s ≡ said.WrongCount → w' ≡ put_five w 3 15 0 0 0 → (true ≡ is_answered s) × (w' ≡ dispatch_words s f n w)
  unfolding dispatch_words
  wrong-count-said e p = rw e (refl, p)

  pub refused-said : {s : Said} {r k i j : ℕ} {g : Refusal} → s ≡ said.Refused r g → k ≡ number g → i ≡ place g → j ≡ pointer g
      → w' ≡ put_five w 3 k r i j → (true ≡ is_answered s) × (w' ≡ dispatch_words s f n w)
  unfolding dispatch_words
  refused-said e ek ei ej p = rw (e, ← ek, ← ei, ← ej) (refl, p)

  pub overlaps-said : {s : Said} {r : ℕ} → s ≡ said.Overlaps r → w' ≡ put_five w 3 14 r r 0 → (true ≡ is_answered s) × (w' ≡ dispatch_words s f n w)
  unfolding dispatch_words
  overlaps-said e p = rw e (refl, p)

  pub ran-said : {s : Said} {v : List ℕ} → s ≡ said.Ran → v ≡ put_five w 0 n 0 0 0 → w' ≡ routine_words f n v
      → (true ≡ is_answered s) × (w' ≡ dispatch_words s f n w)
  unfolding dispatch_words
  ran-said e p q = rw (e, ← p) (refl, q)

-- ---- the whole answer

module _ (l : Lends) (quantum total : ℕ) (ends S w : List ℕ) where
  -- Too few words for an answer.
  pub no-words : length w < 37 → DispatchAnswer l quantum total ends S w false l.values l.cells w
  no-words h = let t : (leb 37 (length w) && room_right ends S)
      ≡ false = rw (lt-leb 37 (length w) h) in record { room = sym t; words = rw t (refl, refl, refl) }

  module _ (outcomes : ℕ → Outcome) (vs cs w' : List ℕ) (b : Bool) (enough : 37 ≤ length w) where
    -- Where the room is as the promise says, the words are those of what is said.
    answered : (s : Said) → room_right ends S ≡ true → Promised (room_right ends S) l quantum total s outcomes vs cs
        → b ≡ true → w' ≡ dispatch_words s (λ i. reads (outcomes i)) (count_of l) w → DispatchAnswer l quantum total ends S w b vs cs w'
    answered s r p e q =
        let t : (leb 37 (length w) && room_right ends S) ≡ true = rw (le-leb 37 (length w) enough, r) in
        record { room = e ∙ sym t; words = rw t (s, outcomes, rw r at p, q) }

    pub said-answered : (s : Said) → Promised (room_right ends S) l quantum total s outcomes vs cs → b ≡ is_answered s
        → w' ≡ dispatch_words s (λ i. reads (outcomes i)) (count_of l) w → DispatchAnswer l quantum total ends S w b vs cs w'
    unfolding Promised dispatch_words
    said-answered said.NoRoom p e q =
        let t : (leb 37 (length w) && room_right ends S) ≡ false = rw (le-leb 37 (length w) enough, p.0) in
        record { room = e ∙ sym t; words = rw t (p.1.values, p.1.cells, q) }
    said-answered said.WrongCount p e q = answered said.WrongCount p.0 p e q
    said-answered (said.Refused r f) p e q = answered (said.Refused r f) p.0 p e q
    said-answered (said.Overlaps r) p e q = answered (said.Overlaps r) p.0 p e q
    said-answered said.Ran p e q = answered said.Ran p.0 p e q

-- ---- the numbers fit

module _ {s : Said} (f : ℕ → Answer) (n : ℕ) (x : SaidSmall s f n) where
  module _ {r : ℕ} {g : Refusal} (e : s ≡ said.Refused r g) where
    pub routine-fits : r < 2 ^ 32
    unfolding SaidSmall
    routine-fits = let t = rw e at x in t.0

    pub place-fits : {a : ℕ} → a ≡ place g → a < 2 ^ 32
    unfolding SaidSmall
    place-fits q = let t = rw e at x in rw q t.1

    pub pointer-fits : {a : ℕ} → a ≡ pointer g → a < 2 ^ 32
    unfolding SaidSmall
    pointer-fits q = let t = rw e at x in rw q t.2

  pub overlap-fits : {r : ℕ} → s ≡ said.Overlaps r → r < 2 ^ 32
  unfolding SaidSmall
  overlap-fits e = rw e at x

  pub ran-fits : s ≡ said.Ran → AllSmall f n
  unfolding SaidSmall
  ran-fits e = rw e at x

-- What is said, and what its routines answer, is small.
pub said-small : (room : Bool) (l : Lends) (quantum total : ℕ) (outcomes : ℕ → Outcome) (vs cs : List ℕ) (s : Said)
    → Promised room l quantum total s outcomes vs cs → SaidSmall s (λ r. reads (outcomes r)) (count_of l)
unfolding Promised SaidSmall
said-small room l quantum total outcomes vs cs said.NoRoom p = tt
said-small room l quantum total outcomes vs cs said.WrongCount p = tt
said-small room l quantum total outcomes vs cs (said.Refused r f) p =
    let s = run_small (table_at l r) (listed_at l r) (lent_to l r) 0 _ (p.2.refuses 0) in
    (omega (arith, p.2.within, (count-facts l quantum p.1).few), s.0, s.1)
said-small room l quantum total outcomes vs cs (said.Overlaps r) p = omega (arith, p.3, (count-facts l quantum p.1).few)
said-small room l quantum total outcomes vs cs said.Ran p =
    ((count-facts l quantum p.1).few, λ r i. run_small (table_at l r) (listed_at l r) (lent_to l r) _ _ (p.2.as-alone r i).run)
