-- Where a run reads the routines of a set. A routine behind the first lists no objects, those of routine 0 are its (rules/Sets, `with_objects`): it is read
-- from as many words before its table on, so that its variables, statements and rows stand where they do with the objects put in. (No step reads a directory
-- or the words of objects.)
use Rattle.std.specs.Prelude.{ℕ, ◌-◌, ◌*◌, cond, List, eqb, ltb, ℤ, length, get_or}
use Rattle.arrays.specs.Tabulate.{tabulate}
use Rattle.sums.specs.Numbers.{zero_var}
use Rattle.words.specs.declared.sections.Sections.{Sections}
use Rattle.statements.specs.declared.CallSite.{CallSite}
use Rattle.table.specs.Form.{sections_of}
use Rattle.rules.specs.Calls.{argument}
use Rattle.machine.specs.Machine.{value}
use Rattle.parts.specs.Parts.{window, part_of, span_of, between}
use Rattle.answers.specs.declared.stops.Outcome.{Outcome}
use Rattle.answers.specs.declared.stops.Outcome.TheVariants.{Done, Spent, Stopped, Refused}
use Rattle.set_runs.specs.declared.lent.Part.{Part}
use Rattle.set_runs.specs.declared.SetOutcome.{SetOutcome}
use Rattle.set_runs.specs.declared.Level.TheVariants.{Returns, Halts}
use Rattle.set_runs.specs.declared.levels.Pause.{Pause}
use Rattle.set_runs.specs.declared.levels.Pause.TheVariants.{Leaves, Calls}

-- The words W hold the tables, L their lengths.
module _ (W : List ℤ) (L : List ℕ) where
  abbrev pub lent_of : ℕ → List ℤ
  lent_of n = part_of L 1 0 n W

  -- The objects of routine 0, for all.
  abbrev pub shared_objects : ℕ
  shared_objects = (sections_of (lent_of 0)).objects

  abbrev pub shift : ℕ → ℕ
  shift n = cond (eqb n 0) 0 shared_objects

  abbrev pub part_in : ℕ → Part
  part_in n =
      let s = span_of L 1 0 n (length W) in
      let h = sections_of (lent_of n) in
      record {
        start = s.start - shift n;
        end = s.end;
        sections = record { start = h.start; objects = shared_objects; variables = h.variables; statements = h.statements; rows = h.rows };
      }

  -- The table of routine n as a run reads it, and its sections.
  abbrev pub read_in : ℕ → List ℤ
  read_in n = window (part_in n).start ((part_in n).end - (part_in n).start) W

  abbrev pub sections_in : ℕ → Sections
  sections_in n = (part_in n).sections

-- The first 16 values of a callee.
abbrev pub called_values : List ℕ → CallSite → List ℕ
called_values vs c = tabulate 16 (λ j. value vs (argument c j))

-- What a stretch of routine n that ends with the outcome means: the level ends, or, where it is spent before the limit, a call is due.
abbrev pub halts : Outcome → ℕ → Pause
halts o n = Leaves (Halts (record { outcome = o; routine = n }))

unfoldable pub pause_of : ℕ → ℕ → Outcome → Pause
pause_of limit n (Done s) = Leaves (Returns s)
pause_of limit n (Spent s a) = cond (ltb s limit) (Calls s a) (halts (Spent s a) n)
pause_of limit n (Stopped s c) = halts (Stopped s c) n
pause_of limit n (Refused r) = halts (Refused r) n

-- The parts of routine n in the lent room: the ends of its bounds in force, and its successors.
abbrev pub room_of : List ℕ → ℕ → List ℕ
room_of ends n = window (512 * n) 512 ends

abbrev pub flow_of : List ℕ → ℕ → List ℕ
flow_of S n = window (2048 * n) 2048 S
