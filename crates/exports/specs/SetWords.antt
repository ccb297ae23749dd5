-- The answers about sets of routines as words in a lent slice, as include/mizzengrape.h tells them (document 02, point 14).
use Rattle.rules.specs.declared.SetRefusal.{SetRefusal}
use Rattle.std.specs.Prelude.{ℕ, ◌≡◌, Bool, true, false, ◌&&◌, List, ℤ, length, set, leb, Result}
use Rattle.rules.specs.Verdict.{verdict_reads}
use Rattle.rules.specs.Sets.{SetJudged}
use Rattle.sets.specs.Tables.{tables_in}
use Rattle.sets.specs.Checked.{member_words, verdict_in, routine_in}
use Rattle.answers.specs.Answers.{reads}
use Rattle.answers.specs.declared.stops.Outcome.{Outcome}
use Rattle.answers.specs.declared.stops.Outcome.TheVariants.{Done, Spent, Stopped, Refused}
use Rattle.interpreter.specs.Claim.{Lent, SetRunJudged}
use Rattle.set_runs.specs.SetRuns.{leaves}
use Rattle.set_runs.specs.declared.SetOutcome.{SetOutcome}
use Rattle.exports.specs.Words.{verdict_words, answer_words}

-- The words of the verdict, then the routine refused; of an accepted set 0. The words behind stay.
unfoldable pub set_verdict_words : Result (Unit {0}) SetRefusal → List ℕ → List ℕ
set_verdict_words v w = set (verdict_words (verdict_reads (verdict_in v)) w) 3 (routine_in v)

-- Where there is room, the words of the verdict on the set of these tables; else nothing is written.
abbrev pub SetCheckedIf : Bool → List ℤ → List ℕ → List ℕ → List ℕ → Type 0
SetCheckedIf true W L w w' = (v : Result (Unit {0}) SetRefusal) × SetJudged (tables_in W L) v × (w' ≡ set_verdict_words v w)
SetCheckedIf false W L w w' = w' ≡ w

-- W: the tables one after the other, L: their lengths, m: how many words are lent for one of them, w: the words for the answer, as they were; w': what they
-- hold then.
pub record SetCheckWords (W : List ℤ) (L : List ℕ) (m : ℕ) (w : List ℕ) (r : Bool) (w' : List ℕ) : Type 0 where
  pub room : r ≡ (leb 4 (length w) && leb member_words m)
  pub words : SetCheckedIf (leb 4 (length w) && leb member_words m) W L w w'

-- ---- a run

-- "stopped and spent give routine and statement", and a refusal names the routine; of a run that is done none is named, for which 0 stands.
abbrev pub routine_named : Outcome → ℕ → ℕ
routine_named (Done n) r = 0
routine_named (Spent n a) r = r
routine_named (Stopped n c) r = r
routine_named (Refused f) r = r

-- The words of the outcome as of a run of one routine, then the routine. The words behind stay.
unfoldable pub set_outcome_words : SetOutcome → List ℕ → List ℕ
set_outcome_words o w = set (answer_words (reads o.outcome) w) 4 (routine_named o.outcome o.routine)

-- Where there is room, the words of an outcome for which, with the values and cells then, the claim about a run of a set holds; else nothing is written.
abbrev pub SetRanIf : Bool → List (List ℤ) → Lent → ℕ → List ℕ → List ℕ → List ℕ → List ℕ → Type 0
SetRanIf true Ts l limit w vs cs w' = (o : SetOutcome) × SetRunJudged Ts l limit (leaves o vs cs) × (w' ≡ set_outcome_words o w)
SetRanIf false Ts l limit w vs cs w' = (vs ≡ l.values) × (cs ≡ l.cells) × (w' ≡ w)

-- l: what the run is lent, roomy: whether enough room is lent besides, w: the words for the answer, as they were; vs, cs and w': what values, cells and words
-- hold then.
pub record SetRunWords (Ts : List (List ℤ)) (l : Lent) (limit : ℕ) (roomy : Bool) (w : List ℕ) (r : Bool) (vs cs w' : List ℕ) : Type 0 where
  pub room : r ≡ (leb 5 (length w) && roomy)
  pub words : SetRanIf (leb 5 (length w) && roomy) Ts l limit w vs cs w'
