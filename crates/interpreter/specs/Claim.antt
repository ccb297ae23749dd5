-- THE CLAIM about a run (document 00, demands 1 to 3; document 01, the plain machine and the causes of refusal; document 02, point 14). It is one claim, about
-- a run of a set of routines; a routine by itself is a set of one. `run` promises `RunJudged` and `run_set` `SetRunJudged` for each input; demand 3 about a
-- whole run, `WholeRun`, follows (`whole_run` in ClaimLaws); `check` promises `Judged` (rules/ByChains). By the language each call ends, touches only what it
-- is lent, and writes neither table, directory nor origins; table words are signed, other words and the allowance unsigned 32-bit numbers.
use Rattle.std.specs.Prelude.{ℕ, ◌+◌, ◌-◌, ◌≤◌, ◌<◌, ◌≡◌, ◌≢◌, ◌↔◌, true, false, cond, List, [], ◌∷◌, ltb, ℤ, length, get_or, Some}
use Rattle.answers.specs.Answers.{Answer, reads}
use Rattle.answers.specs.Answers as says
use Rattle.answers.specs.declared.refusals.Refusal.{Refusal}
use Rattle.answers.specs.declared.refusals.Refusal.TheVariants.{RoutineCount}
use Rattle.answers.specs.declared.stops.Outcome.{Outcome}
use Rattle.answers.specs.declared.stops.Outcome.TheVariants.{Refused}
use Rattle.words.specs.declared.sections.Sections.{Sections}
use Rattle.conditions.specs.declared.Condition.{Condition}
use Rattle.statements.specs.Statements.{statement_at}
use Rattle.statements.specs.declared.Statement.TheVariants.{While}
use Rattle.blocks.specs.Tree.{tree}
use Rattle.blocks.specs.Layout.{also}
use Rattle.listed.specs.Entries.{entries_of, EntriesHold}
use Rattle.rules.specs.BoundsRules.{is_pointer, in_force}
use Rattle.rules.specs.Verdict.{faults}
use Rattle.rules.specs.FactSets.{FactSets}
use Rattle.rules.specs.ByChains.{Decider, by_chains, DecidesTable, Decided}
use Rattle.rules.specs.Report.{reported_at}
use Rattle.rules.specs.Calls.{Routine, routine_at}
use Rattle.rules.specs.Sets.{routines_of, count_right, FirstRefused, AllAccepted}
use Rattle.rules.specs.declared.Environment.{Environment}
use Rattle.machine.specs.Machine.{value, Failing, none, fails, bounds_true, Status, going, stopped, stuck, Point, halted}
use Rattle.machine.specs.SetMachine.{Frame, Stack, stack, start_stack, stack_after, last_values}
use Rattle.machine.specs.Points.{in_bundle, failing_at, access_from, AccessInside, Outside, LastZero}
use Rattle.entry.specs.Entry.{entry_refusals}

-- ---- what a run is lent and what it leaves

-- What is lent beside the routines, for the last of them.
pub record Lent : Type 0 where
  pub directory : List ℕ
  pub cells : List ℕ
  pub values : List ℕ
  pub origins : List ℕ

-- What it leaves: its answer; "stopped and spent give routine and statement", and a refusal names the routine; and what the two buffers hold that it may write.
-- (Tables, list, directory and origins are lent to be read.)
pub record Leaves : Type 0 where
  pub answer : Outcome
  pub routine : ℕ
  pub values : List ℕ
  pub cells : List ℕ

-- A run that the refusal f of routine n refuses answers it (which reads as its number, place and pointer); no cell and no value is changed.
pub record NotBegun (n : ℕ) (f : Refusal) (l : Lent) (m : Leaves) : Type 0 where
  pub answer : m.answer ≡ Refused f
  pub routine : m.routine ≡ n
  pub values : m.values ≡ l.values
  pub cells : m.cells ≡ l.cells

-- How a run ends at a point: "done, spent (the allowance is used and a statement is due) or stopped". (No begun run gets stuck: `has-step`; it would not be
-- done, but stopped by a check that there is not.)
abbrev pub answer_of : Sections → Status → ℕ → ℕ → Answer
answer_of h going steps due = cond (ltb due h.statements) (says.spent steps due) (says.done steps)
answer_of h (stopped n) steps due = says.stopped steps due n
answer_of h stuck steps due = says.stopped steps due 0

-- "A run begins in the last routine".
abbrev pub last_number : List (List ℤ) → ℕ
last_number Ts = length (routines_of Ts) - 1

-- The routine tables by their numbers, and what is lent.
module _ (Ts : List (List ℤ)) (l : Lent) where
  -- 10, 11, 12 and 16 "are of the last routine".
  abbrev pub entry_faults : List Refusal
  entry_faults = let r = routine_at (routines_of Ts) (last_number Ts) in
      entry_refusals r.sections r.environment l.directory l.cells l.values l.origins

  -- ---- the points of a begun run

  -- "Its points are the start and what each step leaves": the plain machine after t steps. (Where it has ended it stays.)
  abbrev pub state_of : ℕ → Stack
  state_of t = stack_after (routines_of Ts) l.directory t (start_stack (routines_of Ts) l.directory l.cells l.values l.origins)

  abbrev pub point_of : ℕ → Point
  point_of t = (state_of t).point

  -- The routine that runs there.
  abbrev pub running : ℕ → Routine
  running t = routine_at (routines_of Ts) (state_of t).routine

  -- What it declares: each pointer's row in force (document 02, point 2) or its own bound.
  abbrev pub declared_at : ℕ → Environment
  declared_at t = in_force (running t).environment (point_of t).rows

  -- The run is neither stopped nor stuck there, and a statement is due.
  abbrev pub StatementDue : ℕ → Type 0
  StatementDue t = ((point_of t).status ≡ going) × ((point_of t).due < (running t).sections.statements)

  -- The first check that fails at the statement due.
  abbrev pub failing_due : ℕ → Failing
  failing_due t = failing_at (declared_at t) (statement_at (running t).table (running t).sections (point_of t).due) (point_of t).values

  -- "The point after t steps is where the same run with allowance t ends": what that run answers.
  abbrev pub answer_at : ℕ → Answer
  answer_at t = answer_of (running t).sections (point_of t).status (point_of t).steps (point_of t).due

  -- The declared bounds of each caller are true.
  abbrev pub CallersTrue : List Frame → Type 0
  CallersTrue [] = Unit {0}
  CallersTrue (F ∷ fs) =
      ((p : ℕ) → is_pointer (routine_at (routines_of Ts) F.routine).environment p ≡ true
      → bounds_true (in_force (routine_at (routines_of Ts) F.routine).environment F.rows) l.directory F.values F.origins p ≡ true)
      × CallersTrue fs

  -- Demand 3 after t steps of a run with the allowance `limit` whose answer reads as `a`: of the plain machine's points, which are the run's by `EndsAt`. L is
  -- the list of loop facts (document 02, point 9): "The list is lent beside the routine, to a run too"; of several routines it is empty.
  pub record AtPoint (L : List ℤ) (limit : ℕ) (a : Answer) (t : ℕ) : Type 0 where
    -- "Outside a bundle every declared bound is true." Of a set: "The bounds that hold at every point are those of the routine running then, outside its
    -- bundles, and of all its callers."
    pub bounds : in_bundle (tree (running t).table (running t).sections) (point_of t).due ≡ false
        → (p : ℕ) → is_pointer (declared_at t) p ≡ true → bounds_true (declared_at t) l.directory (point_of t).values (point_of t).origins p ≡ true
    pub callers : CallersTrue (state_of t).callers
    -- "Each cell read or written so far lay in the object that the pointer was derived from": its origin, lent with it (`start`) or set by kinds 4 to 7.
    pub accesses : (s : ℕ) → s < t
        → AccessInside l.directory (access_from (running s).table (running s).sections (running s).environment (point_of s).status (point_of s))
    -- More than demand 1 asks: no cell outside the objects has changed.
    pub untouched : (i : ℕ) → Outside l.directory (running t).sections.objects i → get_or (point_of t).cells i 0 ≡ get_or l.cells i 0
    -- Document 02, point 7: "At every point of a run the last cell of each terminated object is 0."
    pub last-zero : LastZero (running t).environment l.directory (running t).sections.objects (point_of t).cells
    -- Document 02, point 9: each listed fact means "x <= y + k at every test": where its while is due.
    pub listed : (c : Condition) (n : ℕ) → statement_at (running t).table (running t).sections (point_of t).due ≡ Some (While c n)
        → EntriesHold (entries_of L (point_of t).due) (value (point_of t).values)
    -- "No reported access stops a run at 2 or 3, whoever wrote the list": it fails no check. (What is reported: `Reported` in rules/ByChains.)
    pub reported : (d : Decider) → DecidesTable (running t).table d → reported_at (by_chains d) (running t).table L (point_of t).due ≡ true
        → failing_due t ≡ none
    -- The plain machine has had a step at each point so far (that it has the next one is `goes_on`).
    pub has-step : (point_of t).status ≢ stuck
    -- A run that goes on has made t steps: "a step in a callee is a step of the run".
    pub counted : StatementDue t → (point_of t).steps ≡ t
    -- At most as many routines are begun and not ended as the set has.
    pub frames : (state_of t).routine + length (state_of t).callers < length (routines_of Ts)
    -- "the run, unless it has stopped, has finished exactly when no statement is due"
    pub finished : (point_of t).status ≡ going → (a ≡ says.done (point_of t).steps) ↔ ((running t).sections.statements ≤ (point_of t).due)
    -- "else it is spent exactly when its allowance is used"
    pub spent : StatementDue t → (a ≡ says.spent (point_of t).steps (point_of t).due) ↔ (t ≡ limit)
    -- "else its next step stops it exactly when a named check fails at the statement due,
    pub stops : StatementDue t → (n : ℕ) → ((point_of (t + 1)).status ≡ stopped n) ↔ (failing_due t ≡ fails n)
    -- and it answers that statement and the first such check": number n.
    pub answers-check : StatementDue t → t < limit → (n s : ℕ)
        → (a ≡ says.stopped ((point_of t).steps + 1) s n) ↔ ((failing_due t ≡ fails n) × (s ≡ (point_of t).due))
    -- "The stopping statement is counted and changes nothing", and stays due.
    pub stop-changes-nothing : (point_of t).status ≡ going → (n : ℕ) → (point_of (t + 1)).status ≡ stopped n
        → state_of (t + 1) ≡ stack (state_of t).callers (state_of t).routine (halted (point_of t) n)
    -- "and else it takes that step"
    pub goes_on : StatementDue t → failing_due t ≡ none → ((point_of (t + 1)).status ≡ going) × ((point_of (t + 1)).steps ≡ (point_of t).steps + 1)

  -- "Its cells and values, the statement due and the steps it answers, .. are the plain machine's": what a run with the allowance t answers and leaves. "the
  -- values buffer holds the last routine's".
  pub record EndsAt (t : ℕ) (m : Leaves) : Type 0 where
    pub answer : reads m.answer ≡ answer_at t
    pub routine : m.routine ≡ (state_of t).routine
    pub values : m.values ≡ last_values (routines_of Ts) l.directory (state_of t).callers (point_of t).values
    pub cells : m.cells ≡ (point_of t).cells

  -- A begun run: what it answers and leaves, and demand 3 at every point up to there.
  pub record Ran (L : List ℤ) (limit : ℕ) (m : Leaves) : Type 0 where
    pub ends : EndsAt limit m
    pub every-point : (t : ℕ) → t ≤ limit → AtPoint L limit (reads m.answer) t

-- ---- the promise of a run of a set

-- THE PROMISE OF `run_set`. Exactly one of the four cases is so for each input: "A set of another size is 15, place 0; then routines are checked by number, and
-- the first one refused is named"; 10 to 12 and 16 come "after all routines". "without loop facts".
pub record SetRunJudged (Ts : List (List ℤ)) (l : Lent) (limit : ℕ) (m : Leaves) : Type 0 where
  pub wrong-count : count_right Ts ≡ false → NotBegun 0 RoutineCount l m
  pub refused : (n : ℕ) (r : Refusal) → FirstRefused Ts n r → NotBegun n r l m
  pub not_entered : AllAccepted Ts → (f : Refusal) (fs : List Refusal) → entry_faults Ts l ≡ f ∷ fs → NotBegun (last_number Ts) f l m
  pub ran : AllAccepted Ts → entry_faults Ts l ≡ [] → Ran Ts l [] limit m

-- ---- the promise of a run of a routine by itself: a set of one, with its list of loop facts

module _ (T L : List ℤ) (l : Lent) where
  -- "A run checks the routine first, then 10 to 12", then 16: the faults in that order, of which the first counts.
  unfoldable pub run_faults : FactSets → List Refusal
  run_faults S = also (faults S [] T L) (entry_faults (T ∷ []) l)

  -- What a run answers and leaves, given the faults of its input in order.
  unfoldable pub RunAnswer : List Refusal → ℕ → Leaves → Type 0
  RunAnswer [] limit m = Ran (T ∷ []) l L limit m
  RunAnswer (f ∷ fs) limit m = NotBegun 0 f l m

  -- THE PROMISE OF `run`, for each input, by each decider of the paper's sentences about chains, of which at least one exists (`Decided`).
  unfoldable pub RunJudged : ℕ → Leaves → Type 0
  RunJudged limit m = Decided T (λ d. RunAnswer (run_faults (by_chains d)) limit m)

  -- "A run is begun when no cause refuses it"; "accepted at entry".
  abbrev pub Begins : Type 0
  Begins = Decided T (λ d. run_faults (by_chains d) ≡ [])

-- ---- the whole run

-- Let `call t` be what the call with the allowance t leaves, for each t up to the limit, each lent the same: at every point of the run with the allowance
-- `limit` the same run with the allowance t ends at that point, and demand 3 holds there.
abbrev pub AtEveryPoint : List (List ℤ) → List ℤ → Lent → ℕ → (ℕ → Leaves) → Type 0
AtEveryPoint Ts L l limit call = (t : ℕ) → t ≤ limit → EndsAt Ts l t (call t) × AtPoint Ts l L limit (reads (call limit).answer) t

-- THE CLAIM ABOUT A WHOLE RUN, from the promises of the calls: of a routine by itself, and of a set.
abbrev pub WholeRun : Type 0
WholeRun = (T L : List ℤ) (l : Lent) (limit : ℕ) (call : ℕ → Leaves) → Begins T L l → ((t : ℕ) → t ≤ limit → RunJudged T L l t (call t))
    → AtEveryPoint (T ∷ []) L l limit call

abbrev pub WholeSetRun : Type 0
WholeSetRun = (Ts : List (List ℤ)) (l : Lent) (limit : ℕ) (call : ℕ → Leaves) → AllAccepted Ts → entry_faults Ts l ≡ []
    → ((t : ℕ) → t ≤ limit → SetRunJudged Ts l t (call t)) → AtEveryPoint Ts [] l limit call
