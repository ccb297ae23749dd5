-- What a level of the interpreter of a set promises (document 02, point 14). The interpreter calls itself on a callee; a level sees one routine, whatever
-- callers wait beneath it.
use Rattle.std.specs.Prelude.{ℕ, ◌+◌, ◌-◌, ◌*◌, ◌≤◌, ◌<◌, ◌≡◌, List, [], ◌++◌, ℤ, length, get_or}
use Rattle.rules.specs.BoundsRules.{own_rows}
use Rattle.blocks.specs.Shape.{entries_at}
use Rattle.rules.specs.Calls.{Routine}
use Rattle.rules.specs.Sets.{routines_of, AllAccepted}
use Rattle.machine.specs.Machine.{going, stopped, Point, successors_of}
use Rattle.machine.specs.SetMachine.{Frame, Stack, stack, settled, stack_after, last_values, table_of, sections_of, environment_of}
use Rattle.machine.specs.SetSound.{SetSetting, StackInvariant}
use Rattle.answers.specs.declared.stops.Outcome.{Outcome}
use Rattle.interpreter.specs.Slots.{Laid}
use Rattle.entry.specs.Ends.{ends_of}
use Rattle.interpreter.specs.BareRun.{bare_run, SafeRun, Ends}
use Rattle.interpreter.specs.Outcomes.{outcome_shown}
use Rattle.parts.specs.Parts.{Replaced}
use Rattle.sets.specs.Tables.{tables_in}
use Rattle.set_runs.specs.Lent.{read_in, sections_in, room_of, flow_of}
use Rattle.set_runs.specs.declared.SetOutcome.{SetOutcome}
use Rattle.set_runs.specs.declared.Level.{Level}
use Rattle.set_runs.specs.declared.Level.TheVariants.{Returns, Halts}

module _ (rs : List Routine) (D : List ℕ) (room : ℕ) where
  -- Routine n runs at the point P, above the callers gs. (Its table may have ended.)
  pub record Stands (gs : List Frame) (n : ℕ) (P : Point) : Type 0 where
    pub goes : P.status ≡ going
    pub origins : (p : ℕ) → get_or P.origins p 0 ≤ (sections_of rs D n).objects
    pub invariant : StackInvariant rs D room [] (stack gs n P)

  -- It is at its first statement with the rows of its variables in force, as a routine is that is called.
  pub record Begins (gs : List Frame) (n : ℕ) (P : Point) (made : ℕ) (vs cs : List ℕ) : Type 0 where
    pub stands : Stands gs n P
    pub due : P.due ≡ 0
    pub rows : P.rows ≡ own_rows
    pub steps : P.steps ≡ made
    pub values : P.values ≡ vs
    pub cells : P.cells ≡ cs

  module _ (limit : ℕ) where
    -- The state of the whole run when the limit is used.
    abbrev pub final : List Frame → ℕ → Point → Stack
    final gs n P = stack_after rs D (limit - P.steps) (settled rs D gs n P)

    -- Its table has ended: the caller goes on.
    pub record HasReturned (gs : List Frame) (n : ℕ) (P : Point) (s : ℕ) (vs cs : List ℕ) : Type 0 where
      pub point : Point
      pub stands : Stands gs n point
      pub ended : (sections_of rs D n).statements ≤ point.due
      pub steps : point.steps ≡ s
      pub values : point.values ≡ vs
      pub cells : point.cells ≡ cs
      pub grows : P.steps ≤ s
      pub within : s ≤ limit
      pub ahead : final gs n P ≡ final gs n point

    -- The run is spent or stopped, in this routine or in a callee above it: the callers `above` wait too, the first of them this routine.
    pub record HasHalted (gs : List Frame) (n : ℕ) (P : Point) (o : SetOutcome) (vs cs : List ℕ) : Type 0 where
      pub above : List Frame
      pub point : Point
      pub state : final gs n P ≡ stack (above ++ gs) o.routine point
      pub outcome : o.outcome ≡ outcome_shown (sections_of rs D o.routine) point.status point.steps point.due
      pub numbered : (k : ℕ) → point.status ≡ stopped k → (1 ≤ k) × (k ≤ 6)
      pub values : vs ≡ last_values rs D above point.values
      pub cells : cs ≡ point.cells

    abbrev pub Leaves : List Frame → ℕ → Point → Level → List ℕ → List ℕ → Type 0
    Leaves gs n P (Returns s) vs cs = HasReturned gs n P s vs cs
    Leaves gs n P (Halts o) vs cs = HasHalted gs n P o vs cs

-- ---- in the words of the code: W are the words of the tables, L their lengths, S the successors of all routines

module _ (W : List ℤ) (L D S : List ℕ) where
  abbrev pub set : List Routine
  set = routines_of (tables_in W L)

  -- What a run of the set has throughout.
  pub record Callable (room : ℕ) : Type 0 where
    pub accepted : AllAccepted (tables_in W L)
    pub setting : SetSetting set D room []
    pub flow-long : length S ≡ 16384
    pub flows : (n : ℕ) → n < length L → (a : ℕ) → a < (sections_of set D n).statements
        → entries_at (flow_of S n) a ≡ successors_of (table_of set D n) (sections_of set D n) (environment_of set D n) D a

  module _ (n : ℕ) where
    -- What a stretch of routine n's own steps asks, from the statement `at` with `steps` made,
    pub record MayRun (limit at steps : ℕ) (ends vs cs : List ℕ) : Type 0 where
      pub few : n < 8
      pub room : 512 * n + 512 ≤ length ends
      pub flow-long : length S ≡ 16384
      pub laid : Laid (read_in W L n) (sections_in W L n) (room_of ends n) D (flow_of S n) vs
      pub within : steps ≤ limit
      pub safe : SafeRun (read_in W L n) (sections_in W L n) (room_of ends n) D (flow_of S n) (limit - steps) at vs cs

    -- and what it leaves.
    pub record RanOn (limit at steps : ℕ) (ends vs cs : List ℕ) (o : Outcome) (ends' vs' cs' : List ℕ) : Type 0 where
      pub then-ends : List ℕ
      pub run : Ends (bare_run (read_in W L n) (sections_in W L n) (room_of ends n) D (flow_of S n) (limit - steps) steps at vs cs) o then-ends vs' cs'
      pub kept : Replaced (512 * n) (512 * n + 512) ends then-ends ends'
      pub counted : length then-ends ≡ 512

    -- What a level asks: that the routine is called, by some callers.
    pub record Called (made : ℕ) (vs cs : List ℕ) : Type 0 where
      pub callers : List Frame
      pub point : Point
      pub begins : Begins set D (length cs) callers n point made vs cs

    pub record MayCall (limit made : ℕ) (ends vs cs : List ℕ) : Type 0 where
      pub callable : Callable (length cs)
      pub known : n < length L
      pub room : 512 * n + 512 ≤ length ends
      pub within : made ≤ limit
      pub called : Called made vs cs

    -- THE PROMISE OF A LEVEL: whatever callers wait beneath it.
    abbrev pub LevelLeaves : ℕ → ℕ → List ℕ → List ℕ → Level → List ℕ → List ℕ → Type 0
    LevelLeaves limit made vs cs r vs' cs' =
        (gs : List Frame) (P : Point) → Begins set D (length cs) gs n P made vs cs → Leaves set D (length cs) limit gs n P r vs' cs'

    -- Where a level stands between two stretches.
    pub record Along (room limit : ℕ) (gs : List Frame) (P : Point) (at steps : ℕ) (ends vs cs : List ℕ) : Type 0 where
      pub point : Point
      pub stands : Stands set D room gs n point
      pub due : point.due ≡ at
      pub counted : point.steps ≡ steps
      pub values : point.values ≡ vs
      pub cells : point.cells ≡ cs
      pub in-force : room_of ends n ≡ ends_of (environment_of set D n) point.rows
      pub grows : P.steps ≤ steps
      pub within : steps ≤ limit
      pub ahead : final set D room limit gs n P ≡ final set D room limit gs n point
