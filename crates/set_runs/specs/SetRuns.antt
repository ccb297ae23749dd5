-- What the run of a set promises (document 02, point 14): the claim about a run, where enough room is lent.
use Rattle.std.specs.Prelude.{ℕ, ◌≡◌, Bool, true, false, ◌&&◌, List, [], ◌∷◌, leb, ℤ, None, Option, Some}
use Rattle.answers.specs.declared.refusals.Refusal.{Refusal}
use Rattle.answers.specs.declared.stops.Outcome.TheVariants.{Done}
use Rattle.interpreter.specs.Claim.{Lent, Leaves, NotBegun, last_number, entry_faults, Ran, SetRunJudged}
use Rattle.sets.specs.Checked.{member_words}
use Rattle.set_runs.specs.declared.SetOutcome.{SetOutcome}
use Rattle.set_runs.specs.declared.Level.{Level}
use Rattle.set_runs.specs.declared.Level.TheVariants.{Returns, Halts}

-- What a run leaves, by its answer.
abbrev pub leaves : SetOutcome → List ℕ → List ℕ → Leaves
leaves o vs cs = record { answer = o.outcome; routine = o.routine; values = vs; cells = cs }

-- How the run has ended when the level of the last routine, n, has.
abbrev pub outcome_of : ℕ → Level → SetOutcome
outcome_of n (Returns s) = record { outcome = Done s; routine = n }
outcome_of n (Halts o) = o

-- The run of a set that is accepted.
pub record RunsAccepted (Ts : List (List ℤ)) (l : Lent) (limit : ℕ) (m : Leaves) : Type 0 where
  pub not_entered : (f : Refusal) (fs : List Refusal) → entry_faults Ts l ≡ f ∷ fs → NotBegun (last_number Ts) f l m
  pub ran : entry_faults Ts l ≡ [] → Ran Ts l [] limit m

-- "Lent room": words for a table with the objects put in, ends and successors of eight routines.
abbrev pub room_enough : ℕ → ℕ → ℕ → Bool
room_enough member ends successors = leb member_words member && leb 4096 ends && leb 16384 successors

-- With enough room the run is as promised; with less, nothing is run, and nothing changed.
unfoldable pub SetRunAnswered : Bool → List (List ℤ) → Lent → ℕ → Option SetOutcome → List ℕ → List ℕ → Type 0
SetRunAnswered roomy Ts l limit None vs cs = (roomy ≡ false) × (vs ≡ l.values) × (cs ≡ l.cells)
SetRunAnswered roomy Ts l limit (Some o) vs cs = (roomy ≡ true) × SetRunJudged Ts l limit (leaves o vs cs)
