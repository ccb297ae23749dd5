-- The plain machine of a set of routines (document 02, point 14): the routine that runs, and its callers, which wait. A routine by itself is a set of one.
use Rattle.statements.specs.declared.Statement.{Statement}
use Rattle.std.specs.Prelude.{ℕ, zero, suc, ◌+◌, ◌-◌, Bool, true, false, ◌&&◌, cond, List, [], ◌∷◌, leb, ltb, ℤ, length, get_or, set, None, Option, Some}
use Rattle.arrays.specs.Tabulate.{tabulate}
use Rattle.words.specs.declared.sections.Sections.{Sections}
use Rattle.statements.specs.Statements.{statement_at}
use Rattle.statements.specs.declared.CallSite.{CallSite}
use Rattle.statements.specs.declared.Statement.TheVariants.{Plain, If, While, Bundle, Call}
use Rattle.blocks.specs.Flow.{table_entry}
use Rattle.rules.specs.BoundsRules.{own_rows}
use Rattle.rules.specs.Calls.{Routine, routine_at, argument}
use Rattle.rules.specs.declared.Environment.{Environment}
use Rattle.machine.specs.Machine.{value, Status, going, stopped, stuck, Point, Memory, memory_of, successors_of, next_point, start}

-- What a callee leaves when its table has ended: the cells, and its result.
pub record Returned : Type 0 where
  pub cells : List ℕ
  pub result : ℕ

-- "the caller gets it": the caller's memory then. (A missing result is 16, which no variable has: nothing is set.)
abbrev pub returned_to : Memory → CallSite → Returned → Memory
returned_to m c b = record { cells = b.cells; values = set m.values c.result b.result; origins = m.origins; rows = m.rows }

-- A caller that waits: its routine's number, its values, origins and rows in force, the variable that gets the result, and what follows the call.
pub record Frame : Type 0 where
  pub routine : ℕ
  pub values : List ℕ
  pub origins : List ℕ
  pub rows : List ℕ
  pub result : ℕ
  pub due : ℕ

-- The state of a run: the callers, the one that called last first; the number of the routine that runs, and its point. (Cells, steps and status are the run's.)
pub record Stack : Type 0 where
  pub callers : List Frame
  pub routine : ℕ
  pub point : Point

abbrev pub stack : List Frame → ℕ → Point → Stack
stack fs n P = record { callers = fs; routine = n; point = P }

abbrev pub is_going : Status → Bool
is_going going = true
is_going (stopped n) = false
is_going stuck = false

-- "The callee's first variables take the arguments ..; its other integers are 0 and its other pointers null": each variable gets the value of its argument,
-- where there is none that of 16, zero; and the origins likewise.
abbrev pub called_memory : Routine → CallSite → Memory → Memory
called_memory r c m = record {
  cells = m.cells;
  values = tabulate r.sections.variables (λ j. value m.values (argument c j));
  origins = tabulate r.sections.variables (λ j. get_or m.origins (argument c j) 0);
  rows = own_rows;
}

module _ (rs : List Routine) (D : List ℕ) where
  abbrev pub table_of : ℕ → List ℤ
  table_of n = (routine_at rs n).table

  abbrev pub sections_of : ℕ → Sections
  sections_of n = (routine_at rs n).sections

  abbrev pub environment_of : ℕ → Environment
  environment_of n = (routine_at rs n).environment

  -- "The result is the value of its last variable".
  abbrev pub result_of : ℕ → Point → ℕ
  result_of n P = value P.values ((sections_of n).variables - 1)

  -- A table that has ended: no statement of it is due.
  abbrev pub has_ended : ℕ → Point → Bool
  has_ended n P = is_going P.status && leb (sections_of n).statements P.due

  -- "the caller gets it and what follows the call is due".
  abbrev pub resumed : Frame → Point → ℕ → Point
  resumed F P result =
      record {
        cells = P.cells;
        values = set F.values F.result result;
        origins = F.origins;
        rows = F.rows;
        due = F.due;
        steps = P.steps;
        status = going;
      }

  -- "in the step that ends the callee's table (for an empty table the call itself)": one step may end several tables.
  unfoldable pub settled : List Frame → ℕ → Point → Stack
  settled [] n P = stack [] n P
  settled (F ∷ fs) n P = cond (has_ended n P) (settled fs F.routine (resumed F P (result_of n P))) (stack (F ∷ fs) n P)

  -- The caller as it waits for the callee of c.
  abbrev pub waiting : Stack → CallSite → Frame
  waiting K c =
      record {
        routine = K.routine;
        values = K.point.values;
        origins = K.point.origins;
        rows = K.point.rows;
        result = c.result;
        due = (successors_of (table_of K.routine) (sections_of K.routine) (environment_of K.routine) D K.point.due).next;
      }

  -- The callee as it begins: "a step in a callee is a step of the run", and so is the call.
  abbrev pub begun : CallSite → Point → Point
  begun c P =
      let m = called_memory (routine_at rs c.callee) c (memory_of P) in
      record {
        cells = m.cells;
        values = m.values;
        origins = m.origins;
        rows = m.rows;
        due = table_entry (table_of c.callee) (sections_of c.callee);
        steps = P.steps + 1;
        status = going;
      }

  -- A step of the routine that runs.
  abbrev pub own_step : Stack → Stack
  own_step K =
      settled K.callers K.routine
      (next_point (table_of K.routine) (sections_of K.routine) (environment_of K.routine) D K.point.status K.point)

  -- "kind 15 calls one"
  unfoldable pub stack_step : Option Statement → Stack → Stack
  stack_step (Some (Call c)) K = settled (waiting K c ∷ K.callers) c.callee (begun c K.point)
  stack_step (Some (Plain s)) K = own_step K
  stack_step (Some (If c x y)) K = own_step K
  stack_step (Some (While c x)) K = own_step K
  stack_step (Some (Bundle x)) K = own_step K
  stack_step None K = own_step K

  -- The next state; a run that has ended stays where it is.
  abbrev pub next_if : Bool → Stack → Stack
  next_if true K = stack_step (statement_at (table_of K.routine) (sections_of K.routine) K.point.due) K
  next_if false K = K

  unfoldable pub next_stack : Stack → Stack
  next_stack K = next_if (is_going K.point.status && ltb K.point.due (sections_of K.routine).statements) K

  -- "A run begins in the last routine".
  unfoldable pub start_stack : List ℕ → List ℕ → List ℕ → Stack
  start_stack cs vs os =
      let n = length rs - 1 in
      stack [] n (start (table_of n) (sections_of n) (environment_of n) D cs vs os)

  unfoldable pub stack_after : ℕ → Stack → Stack
  stack_after zero K = K
  stack_after (suc t) K = next_stack (stack_after t K)

  -- "the values buffer holds the last routine's": those of the first caller, or of the routine that runs where none waits.
  abbrev pub last_values : List Frame → List ℕ → List ℕ
  last_values [] vs = vs
  last_values (F ∷ fs) vs = last_values fs F.values
