-- Point 12, "Objects out of reach": what is claimed of two runs of one routine, and of one set (point 14).
use Rattle.std.specs.Prelude.{ℕ, ◌<◌, ◌≡◌, ◌≢◌, ◌⊎◌, List, [], ◌∷◌, ℤ, length, get_or}
use Rattle.rules.specs.Calls.{routine_at}
use Rattle.rules.specs.Sets.{routines_of, AllAccepted}
use Rattle.machine.specs.Points.{Outside, CellOf, Reachable}
use Rattle.answers.specs.Answers.{reads}
use Rattle.interpreter.specs.Claim.{Lent, Leaves, last_number, entry_faults, RunJudged, SetRunJudged, Begins}

-- "two runs of one routine with equal directories, entry values, origins .., whose memories differ only in cells of unreachable objects, or in cells of no
-- object": the second is lent the cells ds in place of those of l.
abbrev pub with_cells : Lent → List ℕ → Lent
with_cells l ds = record { directory = l.directory; cells = ds; values = l.values; origins = l.origins }

module _ (Ts : List (List ℤ)) (l : Lent) where
  -- Object o is reachable in a run that is lent l.
  abbrev pub Reached : ℕ → Type 0
  Reached o = Reachable (routines_of Ts) l.origins o

  -- Cell i is a cell of an object that is reachable.
  abbrev pub ReachableCell : ℕ → Type 0
  ReachableCell i = CellOf l.directory Reached i

  -- The objects are those of the last routine, as of each other.
  abbrev pub object_count : ℕ
  object_count = (routine_at (routines_of Ts) (last_number Ts)).sections.objects

  -- "cells of unreachable objects, or .. cells of no object"
  abbrev pub OtherCell : ℕ → Type 0
  OtherCell i = CellOf l.directory (λ o. (o < object_count) × (Reached o → ⊥)) i ⊎ Outside l.directory object_count i

  pub record DifferElsewhere (ds : List ℕ) : Type 0 where
    pub long : length l.cells ≡ length ds
    pub cells : (i : ℕ) → get_or l.cells i 0 ≢ get_or ds i 0 → OtherCell i

  -- "They give equal answers, steps, values and reachable cells, and leave the other cells untouched." (An answer holds its steps.)
  pub record SameRuns (ds : List ℕ) (m n : Leaves) : Type 0 where
    pub answers : reads m.answer ≡ reads n.answer
    pub routines : m.routine ≡ n.routine
    pub values : m.values ≡ n.values
    pub long : length m.cells ≡ length n.cells
    pub reachable : (i : ℕ) → ReachableCell i → get_or m.cells i 0 ≡ get_or n.cells i 0
    pub first-untouched : (i : ℕ) → OtherCell i → get_or m.cells i 0 ≡ get_or l.cells i 0
    pub second-untouched : (i : ℕ) → OtherCell i → get_or n.cells i 0 ≡ get_or ds i 0

-- THE CLAIM OF POINT 12, from the promises of two calls with the same allowance, "both accepted at entry". It is proved as `two_runs` and `two-set-runs` in
-- TwoRunsLaws.
abbrev pub TwoRuns : Type 0
TwoRuns = (T L : List ℤ) (l : Lent) (ds : List ℕ) (limit : ℕ) (m n : Leaves) → Begins T L l → Begins T L (with_cells l ds) → DifferElsewhere (T ∷ []) l ds
    → RunJudged T L l limit m → RunJudged T L (with_cells l ds) limit n → SameRuns (T ∷ []) l ds m n

abbrev pub TwoSetRuns : Type 0
TwoSetRuns = (Ts : List (List ℤ)) (l : Lent) (ds : List ℕ) (limit : ℕ) (m n : Leaves) → AllAccepted Ts → entry_faults Ts l ≡ []
    → entry_faults Ts (with_cells l ds) ≡ [] → DifferElsewhere Ts l ds → SetRunJudged Ts l limit m → SetRunJudged Ts (with_cells l ds) limit n
    → SameRuns Ts l ds m n
