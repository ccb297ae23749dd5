-- Document 02, point 5: the turns of several routines in one memory, and what they leave: "Each routine's answer, values and own cells are those of a run by
-- itself with the steps it received. What the mission says of a run holds for each of them."
use Rattle.std.specs.Prelude.{ℕ, zero, suc, ◌+◌, ◌*◌, ◌<◌, ◌≡◌, Bool, true, false, cond, List, [], ◌∷◌, length, get_or, drop}
use Rattle.answers.specs.Answers.{Answer, done, spent, stopped, refused}
use Rattle.answers.specs.declared.stops.Outcome.{Outcome}
use Rattle.rules.specs.Sets as sets
use Rattle.machine.specs.SetMachine.{Stack, stack, stack_after}
use Rattle.machine.specs.Points.{Outside}
use Rattle.machine.specs.Frame.{SameCells, Own, Alike, with_cells}
use Rattle.interpreter.specs.Claim.{state_of, point_of, answer_at, RunJudged, Begins}
use Rattle.turns.specs.Turns.{Routines, received, after, granted, ServedAgain, AllServed}
use Rattle.seats.specs.Lends.{Lends, table_at, listed_at, lent_to, sections_at, count_of}
use Rattle.overlaps.specs.Overlaps.{first_overlap}
use Rattle.parts.specs.Parts.{part_of, start_at}
use Rattle.seats.specs.Parts.{kinds, values_kind}

-- ---- the turns

-- "skips those that ended": a run that is spent has not ended.
abbrev pub is_spent : Answer → Bool
is_spent (done n) = false
is_spent (spent n s) = true
is_spent (stopped n s k) = false
is_spent (refused n p q) = false

abbrev pub steps_of : Answer → ℕ
steps_of (done n) = n
steps_of (spent n s) = n
steps_of (stopped n s k) = n
steps_of (refused n p q) = 0

-- The routines, by what a run of each by itself answers with an allowance, lent the memory as it is at the start.
abbrev pub routines_of : Lends → Routines
routines_of l = record {
  count = count_of l;
  waits = λ r t. is_spent (answer_at (table_at l r ∷ []) (lent_to l r) t);
  made = λ r t. steps_of (answer_at (table_at l r ∷ []) (lent_to l r) t);
}

-- The steps that routine r receives.
abbrev pub received_by : Lends → ℕ → ℕ → ℕ → ℕ
received_by l quantum total r = get_or (received (routines_of l) quantum total) r 0

-- The state K, but in the memory M.
abbrev pub in_memory : Stack → List ℕ → Stack
in_memory K M = stack K.callers K.routine (with_cells K.point M)

-- ---- the shared memory: "one lent memory", in which each routine goes on in its turns

module _ (l : Lends) (quantum total : ℕ) where
  -- The steps that each has received after k turns, and whose turn is next.
  abbrev pub steps_after : ℕ → ℕ → ℕ
  steps_after k r = get_or (after (routines_of l) quantum total k).received r 0

  abbrev pub next_after : ℕ → ℕ
  next_after k = (after (routines_of l) quantum total k).next

  -- The plain machine of routine r after s steps more from where it stands by itself after t steps, but in the memory M.
  abbrev pub goes_on : ℕ → ℕ → ℕ → List ℕ → Stack
  goes_on r t s M = stack_after (sets.routines_of (table_at l r ∷ [])) (lent_to l r).directory s (in_memory (state_of (table_at l r ∷ []) (lent_to l r) t) M)

  -- The memory after k turns: a turn leaves what the plain machine leaves that goes on in it; one that ended is skipped.
  unfoldable pub memory_after : ℕ → List ℕ
  memory_after zero = l.cells
  memory_after (suc k) =
      cond ((routines_of l).waits (next_after k) (steps_after k (next_after k)))
      (goes_on (next_after k) (steps_after k (next_after k)) (granted (routines_of l) quantum total (after (routines_of l) quantum total k).received)
      (memory_after k)).point.cells
      (memory_after k)

  -- "What the mission says of a run holds for each of them": at each of its points in the shared memory, s steps into the turn that follows k turns, a routine
  -- stands where its run by itself stands after as many steps, but for cells of others; for that run demand 3 is in `AsAlone`.
  abbrev pub EachPoint : Type 0
  EachPoint = (k s : ℕ) → Alike (lent_to l (next_after k)).directory (Own (sections_at l (next_after k)))
      (point_of (table_at l (next_after k) ∷ []) (lent_to l (next_after k)) (steps_after k (next_after k) + s))
      (goes_on (next_after k) (steps_after k (next_after k)) s (memory_after k)).point

-- ---- the promise

-- "Each routine's answer, values and own cells are those of a run by itself with the steps it received. What the mission says of a run holds for each of
-- them": t steps of routine r, which answers o and leaves the values vs; cs is the memory then.
pub record AsAlone (l : Lends) (r t : ℕ) (o : Outcome) (vs cs : List ℕ) : Type 0 where
  pub alone : List ℕ
  pub run : RunJudged (table_at l r) (listed_at l r) (lent_to l r) t (record { answer = o; routine = 0; values = vs; cells = alone })
  pub own-cells : SameCells (lent_to l r).directory (Own (sections_at l r)) alone cs

-- Nothing refuses the call: all routines run.
pub record AllRan (l : Lends) (quantum total : ℕ) (outcomes : ℕ → Outcome) (vs cs : List ℕ) : Type 0 where
  pub begin : (r : ℕ) → r < count_of l → Begins (table_at l r) (listed_at l r) (lent_to l r)
  pub apart : first_overlap l ≡ count_of l
  pub as-alone : (r : ℕ) → r < count_of l → AsAlone l r (received_by l quantum total r) (outcomes r) (part_of l.lengths kinds values_kind r vs) cs
  pub memory : cs ≡ memory_after l quantum total (count_of l * total)
  pub each-point : EachPoint l quantum total
  -- "one that waits is served again after at most (n - 1) times Q steps of the others, unless the total runs out"; in the end nobody waits, or it has run out.
  pub served-again : (k r : ℕ) → r < count_of l → ServedAgain (routines_of l) quantum total k r
  pub all-served : AllServed (routines_of l) quantum total
  -- Cells of nobody's objects, and values behind all parts, are as they were.
  pub nobodys-cells : (i : ℕ) → ((r : ℕ) → r < count_of l → Outside (lent_to l r).directory (sections_at l r).objects i) → get_or cs i 0 ≡ get_or l.cells i 0
  pub nobodys-values : drop (start_at l.lengths kinds values_kind (count_of l)) vs ≡ drop (start_at l.lengths kinds values_kind (count_of l)) l.values
  pub cells-long : length cs ≡ length l.cells
  pub values-long : length vs ≡ length l.values
