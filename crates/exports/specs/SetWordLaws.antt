-- Laws of the answer words about sets.
use Rattle.rules.specs.declared.SetRefusal.{SetRefusal}
use Rattle.std.specs.Prelude.{ℕ, ◌^◌, ◌<◌, ◌≤◌, ◌≡◌, Bool, true, false, ◌&&◌, List, ℤ, length, set, leb, Err, None, Ok, Option, Some, Result}
use Rattle.std.proofs.Math.Path.{refl, sym}
use Rattle.std.proofs.Common.{◌∙◌, ap, arith, length-set}
use borrow.Author.Tests.{le-leb, lt-leb}
use Rattle.answers.specs.declared.refusals.Refusal.{Refusal}
use Rattle.rules.specs.Verdict.{verdict_reads}
use Rattle.rules.specs.Small.{ReadingSmall}
use Rattle.rules.specs.Sets.{SetJudged}
use Rattle.sets.specs.Tables.{tables_in}
use Rattle.sets.specs.Checked.{member_words, SetAnswered, verdict_in, routine_in}
use Rattle.sets.specs.SmallLaws.{set-small}
use Rattle.answers.specs.Answers.{Answer, done, spent, stopped, refused, reads}
use Rattle.answers.specs.declared.stops.Check.{Check}
use Rattle.answers.specs.declared.stops.Outcome.{Outcome}
use Rattle.answers.specs.declared.stops.Outcome.TheVariants.{Done, Spent, Stopped, Refused}
use Rattle.interpreter.specs.SmallLaws.{AnswerSmall}
use Rattle.interpreter.specs.Claim.{Lent, SetRunJudged}
use Rattle.set_runs.specs.SetRuns.{leaves, SetRunAnswered}
use Rattle.set_runs.specs.SmallLaws.{set-run-small}
use Rattle.set_runs.specs.declared.SetOutcome.{SetOutcome}
use Rattle.exports.specs.Words.{verdict_words, answer_words}
use Rattle.exports.specs.SetWords.{set_verdict_words, routine_named, set_outcome_words, SetCheckWords, SetRunWords}

-- ---- the numbers fit

module _ {v : Result (Unit {0}) SetRefusal} {n : ℕ} {r : Refusal} (e : v ≡ Err (record { routine = n; refusal = r })) where
  pub refused-fits : ReadingSmall (verdict_reads (verdict_in v)) → ReadingSmall (verdict_reads (Err r))
  refused-fits s = rw e at s

  pub routine-fits : routine_in v < 2 ^ 32 → n < 2 ^ 32
  routine-fits s = rw e at s

pub named-fits : (o : Outcome) {r n : ℕ} → n ≡ routine_named o r → r < 2 ^ 32 → n < 2 ^ 32
named-fits (Done m) e l = omega arith
named-fits (Spent m a) e l = omega arith
named-fits (Stopped m c) e l = omega arith
named-fits (Refused f) e l = omega arith

pub checked-fits : (m : ℕ) (Ts : List (List ℤ)) {s : Option (Result (Unit {0}) SetRefusal)} {v : Result (Unit {0}) SetRefusal} → SetAnswered m Ts s → s ≡ Some v
    → ReadingSmall (verdict_reads (verdict_in v)) × (routine_in v < 2 ^ 32)
unfolding SetAnswered
checked-fits m Ts {s} {v} a e = let o : (member_words ≤ m) × SetJudged Ts v = rw e at a in set-small Ts v o.1

pub ran-fits : (roomy : Bool) (Ts : List (List ℤ)) (l : Lent) (limit : ℕ) {s : Option SetOutcome} {o : SetOutcome} (vs cs : List ℕ)
    → SetRunAnswered roomy Ts l limit s vs cs → s ≡ Some o → AnswerSmall (reads o.outcome) × (o.routine < 2 ^ 32)
unfolding SetRunAnswered
ran-fits roomy Ts l limit {s} {o} vs cs a e =
    let q : (roomy ≡ true) × SetRunJudged Ts l limit (leaves o vs cs) = rw e at a in set-run-small Ts l limit (leaves o vs cs) q.1

-- ---- the words

module _ {v : Result (Unit {0}) SetRefusal} (w : List ℕ) {u : List ℕ} where
  pub accepted-set : v ≡ Ok tt → u ≡ verdict_words (verdict_reads (Ok tt)) w → set u 3 0 ≡ set_verdict_words v w
  unfolding set_verdict_words
  accepted-set e p = rw (e, p)

  pub refused-set : {n : ℕ} {r : Refusal} → v ≡ Err (record { routine = n; refusal = r }) → u ≡ verdict_words (verdict_reads (Err r)) w
      → set u 3 n ≡ set_verdict_words v w
  unfolding set_verdict_words
  refused-set e p = rw (e, p)

and-false : (x : Bool) {y : Bool} → y ≡ false → (x && y) ≡ false
and-false true e = e
and-false false e = refl

module _ {W : List ℤ} {L : List ℕ} {m : ℕ} {w : List ℕ} where
  pub no_answer : length w < 4 → SetCheckWords W L m w false w
  no_answer h = record { room = sym (rw (lt-leb 4 (length w) h)); words = rw (lt-leb 4 (length w) h) refl }

  pub no_member : {s : Option (Result (Unit {0}) SetRefusal)} → SetAnswered m (tables_in W L) s → s ≡ None → SetCheckWords W L m w false w
  unfolding SetAnswered
  no_member a e =
      let o : m < member_words = rw e at a in
      let z = and-false (leb 4 (length w)) (lt-leb member_words m o) in
      record { room = sym z; words = rw z refl }

  pub checked-set : {s : Option (Result (Unit {0}) SetRefusal)} {v : Result (Unit {0}) SetRefusal} {w' : List ℕ} → 4 ≤ length w
      → SetAnswered m (tables_in W L) s → s ≡ Some v → w' ≡ set_verdict_words v w
      → SetCheckWords W L m w true w'
  unfolding SetAnswered
  checked-set {s} {v} h a e p =
      let o : (member_words ≤ m) × SetJudged (tables_in W L) v = rw e at a in
      record {
        room = sym (rw (le-leb 4 (length w) h, le-leb member_words m o.0));
        words = rw (le-leb 4 (length w) h, le-leb member_words m o.0) (v, o.1, p);
      }

-- ---- a run

module _ {o : Outcome} (r : ℕ) where
  pub done-named : {n : ℕ} → o ≡ Done n → 0 ≡ routine_named o r
  done-named e = rw e

  pub spent-named : {n a : ℕ} → o ≡ Spent n a → r ≡ routine_named o r
  spent-named e = rw e

  pub stopped_named : {n : ℕ} {c : Check} → o ≡ Stopped n c → r ≡ routine_named o r
  stopped_named e = rw e

  pub refused-named : {f : Refusal} → o ≡ Refused f → r ≡ routine_named o r
  refused-named e = rw e

pub outcome-long : (a : Answer) (w : List ℕ) {u : List ℕ} → u ≡ answer_words a w → length u ≡ length w
unfolding answer_words
outcome-long (done n) w e = ap length e ∙ simp length-set
outcome-long (spent n a) w e = ap length e ∙ simp length-set
outcome-long (stopped n a k) w e = ap length e ∙ simp length-set
outcome-long (refused n a p) w e = ap length e ∙ simp length-set

pub outcome-words : (o : SetOutcome) (w : List ℕ) {u : List ℕ} {n : ℕ} → u ≡ answer_words (reads o.outcome) w → n ≡ routine_named o.outcome o.routine
    → set u 4 n ≡ set_outcome_words o w
unfolding set_outcome_words
outcome-words o w e p = rw (e, p)

module _ {Ts : List (List ℤ)} {l : Lent} {limit : ℕ} {roomy : Bool} {w : List ℕ} where
  pub no_run : length w < 5 → SetRunWords Ts l limit roomy w false l.values l.cells w
  no_run h = record { room = sym (rw (lt-leb 5 (length w) h)); words = rw (lt-leb 5 (length w) h) (refl, refl, refl) }

  pub no-run-room : {s : Option SetOutcome} {vs cs : List ℕ} → SetRunAnswered roomy Ts l limit s vs cs → s ≡ None → SetRunWords Ts l limit roomy w false vs cs w
  unfolding SetRunAnswered
  no-run-room {s} {vs} {cs} a e =
      let o : (roomy ≡ false) × (vs ≡ l.values) × (cs ≡ l.cells) = rw e at a in
      let z = and-false (leb 5 (length w)) o.0 in
      record { room = sym z; words = rw z (o.1, o.2, refl) }

  pub ran-set : {s : Option SetOutcome} {o : SetOutcome} {vs cs w' : List ℕ} → 5 ≤ length w → SetRunAnswered roomy Ts l limit s vs cs → s ≡ Some o
      → w' ≡ set_outcome_words o w
      → SetRunWords Ts l limit roomy w true vs cs w'
  unfolding SetRunAnswered
  ran-set {s} {o} {vs} {cs} h a e p =
      let q : (roomy ≡ true) × SetRunJudged Ts l limit (leaves o vs cs) = rw e at a in
      record { room = sym (rw (le-leb 5 (length w) h, q.0)); words = rw (le-leb 5 (length w) h, q.0) (o, q.1, p) }
