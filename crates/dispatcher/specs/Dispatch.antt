-- Document 02, point 5, "Several routines in turn": what refuses a call of `dispatch`, and what it promises.
use Rattle.std.specs.Prelude.{ℕ, ◌%◌, ◌<◌, ◌≡◌, Bool, true, false, ◌&&◌, List, leb, eqb, length}
use Rattle.answers.specs.declared.refusals.Refusal.{Refusal}
use Rattle.answers.specs.declared.stops.Outcome.{Outcome}
use Rattle.answers.specs.declared.stops.Outcome.TheVariants as outcome
use Rattle.interpreter.specs.Claim.{RunJudged, Begins}
use Rattle.seats.specs.Lends.{Lends, table_at, listed_at, lent_to, count_of}
use Rattle.overlaps.specs.Overlaps.{first_overlap}
use Rattle.rounds.specs.Rounds.{AllRan}
use Rattle.dispatcher.specs.declared.Said.{Said}
use Rattle.dispatcher.specs.declared.Said.TheVariants as said

-- ---- what refuses a call

-- "It refuses with 15, place 0 and before all else, when the count of routines or Q is out of range": 1 to 8 of five lengths each, and 1 to 1,000.
unfoldable pub count_right : Lends → ℕ → Bool
count_right l quantum = eqb (length l.lengths % 5) 0 && leb 1 (count_of l) && leb (count_of l) 8 && leb 1 quantum && leb quantum 1000

-- The room that is lent for the set-up of eight routines is large enough.
unfoldable pub room_right : List ℕ → List ℕ → Bool
room_right ends successors = leb 4096 (length ends) && leb 16384 (length successors)

-- ---- the promise

pub record Unchanged (l : Lends) (vs cs : List ℕ) : Type 0 where
  pub values : vs ≡ l.values
  pub cells : cs ≡ l.cells

-- "the first that does not is named with its refusal": all before it pass what their runs alone check, and its run alone, with whatever allowance, is refused
-- so.
pub record FirstRefused (l : Lends) (r : ℕ) (f : Refusal) : Type 0 where
  pub within : r < count_of l
  pub earlier : (k : ℕ) → k < r → Begins (table_at l k) (listed_at l k) (lent_to l k)
  pub refuses : (limit : ℕ)
      → RunJudged (table_at l r) (listed_at l r) (lent_to l r) limit
      (record { answer = outcome.Refused f; routine = 0; values = (lent_to l r).values; cells = l.cells })

-- THE PROMISE OF `dispatch`, by what it says. (Where less room is lent than the set-up takes, nothing is done: `NoRoom`.)
unfoldable pub Promised : Bool → Lends → ℕ → ℕ → Said → (ℕ → Outcome) → List ℕ → List ℕ → Type 0
Promised room l quantum total said.NoRoom outcomes vs cs = (room ≡ false) × Unchanged l vs cs
Promised room l quantum total said.WrongCount outcomes vs cs = (room ≡ true) × (count_right l quantum ≡ false) × Unchanged l vs cs
Promised room l quantum total (said.Refused r f) outcomes vs cs = (room ≡ true) × (count_right l quantum ≡ true) × FirstRefused l r f × Unchanged l vs cs
Promised room l quantum total (said.Overlaps r) outcomes vs cs =
    (room ≡ true) × (count_right l quantum ≡ true) × ((k : ℕ) → k < count_of l → Begins (table_at l k) (listed_at l k) (lent_to l k)) × (r < count_of l)
    × (r ≡ first_overlap l) × Unchanged l vs cs
Promised room l quantum total said.Ran outcomes vs cs = (room ≡ true) × (count_right l quantum ≡ true) × AllRan l quantum total outcomes vs cs
