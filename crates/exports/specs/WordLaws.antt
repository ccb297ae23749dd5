-- The words of each answer.
use Rattle.std.specs.Prelude.{ℕ, ◌^◌, ◌≤◌, ◌<◌, ◌≡◌, refl, true, false, List, [], ℤ, length, Err, Ok, Result}
use Rattle.std.proofs.Common.{sym, ap, ◌∙◌, le-leb}
use Rattle.std.proofs.lemmas.Bool.{lt-leb}
use Rattle.answers.specs.Refusals.{number, place, pointer}
use Rattle.answers.specs.declared.refusals.Refusal.{Refusal}
use Rattle.rules.specs.Verdict.{Reading, verdict_reads, first_reads}
use Rattle.rules.specs.Small.{ReadingSmall}
use Rattle.rules.specs.ByChains.{chain_faults, Judged}
use Rattle.rules.proofs.Decidable.{decided}
use Rattle.answers.specs.Answers.{check_number, check_statement, reads}
use Rattle.interpreter.specs.SmallLaws.{AnswerSmall}
use Rattle.interpreter.specs.Claim.{Lent, RunJudged}
use Rattle.answers.specs.declared.stops.Check.{Check}
use Rattle.answers.specs.declared.stops.Outcome.{Outcome}
use Rattle.answers.specs.declared.stops.Outcome.TheVariants.{Done, Spent, Stopped, Refused}
use Rattle.exports.specs.Words.{put_three, put_four, verdict_words, answer_words, CheckAnswer, RunWords}

-- ---- the numbers fit

module _ {v : Result (Unit {0}) Refusal} {r : Refusal} (e : v ≡ Err r) {a : ℕ} (s : ReadingSmall (verdict_reads v)) where
  pub place-fits : a ≡ place r → a < 2 ^ 32
  place-fits q = let t = rw e at s in rw q t.0

  pub pointer-fits : a ≡ pointer r → a < 2 ^ 32
  pointer-fits q = let t = rw e at s in rw q t.1

module _ {o : Outcome} {a : ℕ} (s : AnswerSmall (reads o)) where
  pub spent_fits : {n : ℕ} → o ≡ Spent n a → a < 2 ^ 32
  spent_fits e = rw e at s

  pub stopped-fits : {n : ℕ} {c : Check} → o ≡ Stopped n c → a ≡ check_statement c → a < 2 ^ 32
  stopped-fits e q = let t = rw e at s in rw q t

  pub not-begun-place : {r : Refusal} → o ≡ Refused r → a ≡ place r → a < 2 ^ 32
  not-begun-place e q = let t = rw e at s in rw q t.0

  pub not-begun-pointer : {r : Refusal} → o ≡ Refused r → a ≡ pointer r → a < 2 ^ 32
  not-begun-pointer e q = let t = rw e at s in rw q t.1

-- ---- the words

module _ (w : List ℕ) {w' : List ℕ} where
  pub accepted-words : {v : Result (Unit {0}) Refusal} → v ≡ Ok tt → w' ≡ put_three w 0 0 0 → w' ≡ verdict_words (verdict_reads v) w
  unfolding verdict_words
  accepted-words e p = rw e p

  pub refused-words : {v : Result (Unit {0}) Refusal} {r : Refusal} {n a p : ℕ} → v ≡ Err r → n ≡ number r → a ≡ place r → p ≡ pointer r
      → w' ≡ put_three w n a p → w' ≡ verdict_words (verdict_reads v) w
  unfolding verdict_words
  refused-words e en ea ep s = rw (e, ← en, ← ea, ← ep) s

  pub done-words : {o : Outcome} {n : ℕ} → o ≡ Done n → w' ≡ put_four w 0 n 0 0 → w' ≡ answer_words (reads o) w
  unfolding answer_words
  done-words e p = rw e p

  pub spent-words : {o : Outcome} {n a : ℕ} → o ≡ Spent n a → w' ≡ put_four w 1 n a 0 → w' ≡ answer_words (reads o) w
  unfolding answer_words
  spent-words e p = rw e p

  pub stopped-words : {o : Outcome} {c : Check} {n a k : ℕ} → o ≡ Stopped n c → a ≡ check_statement c → k ≡ check_number c
      → w' ≡ put_four w 2 n a k → w' ≡ answer_words (reads o) w
  unfolding answer_words
  stopped-words e ea ek p = rw (e, ← ea, ← ek) p

  pub not-begun-words : {o : Outcome} {r : Refusal} {n a p : ℕ} → o ≡ Refused r → n ≡ number r → a ≡ place r → p ≡ pointer r
      → w' ≡ put_four w 3 n a p → w' ≡ answer_words (reads o) w
  unfolding answer_words
  not-begun-words e en ea ep s = rw (e, ← en, ← ea, ← ep) s

pub no_room : {T L : List ℤ} {w : List ℕ} → length w < 3 → CheckAnswer T L w false w
no_room {w = w} h = record { room = sym (lt-leb 3 (length w) h); words = rw (lt-leb 3 (length w) h) refl }

pub checked-words : {T L : List ℤ} {w w' : List ℕ} (v : Result (Unit {0}) Refusal) → 3 ≤ length w → Judged [] T L v → w' ≡ verdict_words (verdict_reads v) w
    → CheckAnswer T L w true w'
unfolding Judged
checked-words {T} {L} {w} {w'} v h a e =
    record {
      room = sym (le-leb 3 (length w) h);
      words = rw (le-leb 3 (length w) h)
          (decided T (λ d. w' ≡ verdict_words (first_reads (chain_faults d [] T L)) w)
          (λ d c. e ∙ ap (λ (x : Reading). verdict_words x w) (a.by-each d c).reads));
    }

pub no-room-to-run : {T L : List ℤ} {l : Lent} {w : List ℕ} {limit : ℕ} → length w < 4 → RunWords T L l limit w false l.values l.cells w
no-room-to-run {w = w} h = record { room = sym (lt-leb 4 (length w) h); words = rw (lt-leb 4 (length w) h) (refl, refl, refl) }

pub ran-words : {T L : List ℤ} {l : Lent} {w vs cs w' : List ℕ} {limit : ℕ} (o : Outcome) → 4 ≤ length w
    → RunJudged T L l limit (record { answer = o; routine = 0; values = vs; cells = cs })
    → w' ≡ answer_words (reads o) w
    → RunWords T L l limit w true vs cs w'
ran-words {w = w} o h a e = record { room = sym (le-leb 4 (length w) h); words = rw (le-leb 4 (length w) h) (o, a, e) }
