-- Document 02, point 5: what a call of the dispatcher is lent, and what each routine is lent of it.
use Rattle.std.specs.Prelude.{ℕ, ◌/◌, List, ℤ, length}
use Rattle.words.specs.declared.sections.Sections.{Sections}
use Rattle.table.specs.Form.{sections_of}
use Rattle.interpreter.specs.Claim.{Lent}
use Rattle.parts.specs.Parts.{part_of}
use Rattle.seats.specs.Parts.{kinds, table_kind, listed_kind, directory_kind, values_kind, origins_kind}

-- "1 to 8 accepted routines with separate values and one lent memory": the parts of all routines one after the other, and five lengths a routine.
pub record Lends : Type 0 where
  pub tables : List ℤ
  -- "Each may have a list of loop facts (9), empty ones included."
  pub listed : List ℤ
  pub directories : List ℕ
  pub cells : List ℕ
  pub values : List ℕ
  pub origins : List ℕ
  pub lengths : List ℕ

-- What routine r is lent: its table, its list, its other parts, and the one memory.
abbrev pub table_at : Lends → ℕ → List ℤ
table_at l r = part_of l.lengths kinds table_kind r l.tables

abbrev pub listed_at : Lends → ℕ → List ℤ
listed_at l r = part_of l.lengths kinds listed_kind r l.listed

abbrev pub lent_to : Lends → ℕ → Lent
lent_to l r = record {
  directory = part_of l.lengths kinds directory_kind r l.directories;
  cells = l.cells;
  values = part_of l.lengths kinds values_kind r l.values;
  origins = part_of l.lengths kinds origins_kind r l.origins;
}

abbrev pub sections_at : Lends → ℕ → Sections
sections_at l r = sections_of (table_at l r)

abbrev pub count_of : Lends → ℕ
count_of l = length l.lengths / 5
