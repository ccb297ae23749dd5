-- What the check of a lent set answers.
use Rattle.rules.specs.declared.SetRefusal.{SetRefusal}
use Rattle.answers.specs.declared.refusals.Refusal.{Refusal}
use Rattle.std.specs.Prelude.{ℕ, ◌≤◌, ◌<◌, List, ℤ, Err, None, Ok, Option, Result, Some}
use Rattle.rules.specs.Sets.{SetJudged}

-- The words of the longest table, 7,704, and of the objects put in, 16.
abbrev pub member_words : ℕ
member_words = 7720

-- With room for a table with the objects put in, the verdict on the set of these tables; with less, that there is too little.
unfoldable pub SetAnswered : ℕ → List (List ℤ) → Option (Result (Unit {0}) SetRefusal) → Type 0
SetAnswered room Ts None = room < member_words
SetAnswered room Ts (Some v) = (member_words ≤ room) × SetJudged Ts v

-- How a verdict on a set is told: a refusal as one of a routine is, and which routine; of an accepted set 0.
abbrev pub verdict_in : Result (Unit {0}) SetRefusal → Result (Unit {0}) Refusal
verdict_in (Ok _) = Ok tt
verdict_in (Err x) = Err x.refusal

abbrev pub routine_in : Result (Unit {0}) SetRefusal → ℕ
routine_in (Ok _) = 0
routine_in (Err x) = x.routine
