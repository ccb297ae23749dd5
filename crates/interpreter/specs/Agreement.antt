-- How the run without origins shows the points of the plain machine, and what it needs of them.
use Rattle.std.specs.Prelude.{ℕ, ◌<◌, ◌≤◌, ◌≡◌, true, List, ℤ, length, get_or, Some}
use Rattle.words.specs.declared.sections.Sections.{Sections}
use Rattle.statements.specs.Statements.{statement_at}
use Rattle.statements.specs.declared.Statement.{Statement}
use Rattle.statements.specs.declared.Statement.TheVariants.{Plain, If, While, Bundle, Call}
use Rattle.blocks.specs.Flow.{Successors}
use Rattle.blocks.specs.Shape.{entries_at}
use Rattle.reports.specs.Reports.{reported}
use Rattle.rules.specs.BoundsRules.{in_force}
use Rattle.rules.specs.declared.Environment.{Environment}
use Rattle.machine.specs.Machine.{high, none, Status, going, stopped, stuck, Point, successors_of}
use Rattle.machine.specs.AlonePoints.{point_after}
use Rattle.machine.specs.Points.{failing_at}
use Rattle.checks.specs.Checked.{check_of}
use Rattle.steps.specs.Bare.{Move, move, Marked}
use Rattle.interpreter.specs.BareRun.{BareResult, result}
use Rattle.entry.specs.Ends.{ends_of}
use Rattle.interpreter.specs.Outcomes.{outcome_shown}
use Rattle.checks.specs.declared.Step.{Step}
use Rattle.checks.specs.declared.Step.TheVariants.{Go, Stop}

-- What the step to a point says, by the point's status and the statement due there. (No run that is begun is stuck.)
abbrev pub step_shown : Status → ℕ → Step
step_shown going a = Go a
step_shown (stopped n) a = Stop (check_of n a)
step_shown stuck a = Go a

-- The run has the rows in force as the ends that are laid out.
abbrev pub move_shown : Environment → Point → Move
move_shown E Q = move (step_shown Q.status Q.due) (ends_of E Q.rows) Q.values Q.cells

abbrev pub result_shown : Environment → Sections → Point → BareResult
result_shown E h Q = result (outcome_shown h Q.status Q.steps Q.due) (ends_of E Q.rows) Q.values Q.cells

-- The successors m serve as n do: a statement of kinds 1 to 10 and 14 has one.
abbrev pub Serves : Statement → Successors → Successors → Type 0
Serves (Plain s) m n = m.next ≡ n.next
Serves (If c x y) m n = m ≡ n
Serves (While c x) m n = m ≡ n
Serves (Bundle x) m n = m ≡ n
Serves (Call c) m n = m ≡ n

-- Where the statement due is marked, no check of it fails.
abbrev pub KnownAt : List ℤ → Sections → Environment → List ℕ → Point → Type 0
KnownAt T h E S Q =
    Q.due < h.statements → Marked S Q.due → failing_at (in_force E Q.rows) (statement_at T h Q.due) Q.values ≡ none

-- Where the words M report the statement due, no check of it fails.
abbrev pub PassesAt : List ℤ → Sections → Environment → List ℕ → Point → Type 0
PassesAt T h E M Q =
    Q.due < h.statements → reported M Q.due ≡ true → failing_at (in_force E Q.rows) (statement_at T h Q.due) Q.values ≡ none

-- What the run without origins needs of the plain machine's run from the point P.
pub record Runnable (T : List ℤ) (h : Sections) (E : Environment) (D W S : List ℕ) (P : Point) : Type 0 where
  -- the slices that are laid out
  pub ends : W ≡ ends_of E P.rows
  pub successors : (a : ℕ) → a < h.statements → (s : Statement) → statement_at T h a ≡ Some s → Serves s (entries_at S a) (successors_of T h E D a)
  -- every statement reads
  pub reads : (a : ℕ) → a < h.statements → (s : Statement) × (statement_at T h a ≡ Some s)
  -- the objects lie in the memory, and origins are objects
  pub objects : (o : ℕ) → o < h.objects → high D o ≤ length P.cells
  pub origins : (p : ℕ) → get_or P.origins p 0 ≤ h.objects
  -- a row for each of 16 numbers
  pub rows_long : (t : ℕ) → length (point_after T h E D t P).rows ≡ 16
  -- no point is stuck
  pub unstuck : (t : ℕ) → (point_after T h E D t P).status ≡ stuck → ⊥
  -- a marked statement passes its checks wherever it is due
  pub known : (t : ℕ) → KnownAt T h E S (point_after T h E D t P)
