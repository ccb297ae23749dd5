-- The verdict on a table (document 01, "Causes of refusal"): causes 1 to 6 over the whole table, then the first fault of the walk.
use Rattle.table.specs.declared.variables.BoundsRow.{BoundsRow}
use Rattle.table.specs.declared.variables.Variable.{Variable}
use Rattle.std.specs.Prelude.{ℕ, ◌≡◌, List, [], ◌∷◌, ℤ, Err, None, Ok, Option, Result, Some}
use Rattle.arrays.specs.Tabulate.{tabulate}
use Rattle.answers.specs.Refusals.{number, place, pointer}
use Rattle.answers.specs.declared.refusals.Refusal.{Refusal}
use Rattle.words.specs.Sections.{pointer_at, string_at, object_terminated}
use Rattle.words.specs.declared.sections.Sections.{Sections}
use Rattle.table.specs.Variables.{variable_at, object_at, row_at}
use Rattle.table.specs.declared.variables.Variable.TheVariants.{Integer, Pointer}
use Rattle.table.specs.Form.{form_of}
use Rattle.blocks.specs.Tree.{tree}
use Rattle.blocks.specs.Layout.{also, layout}
use Rattle.listed.specs.ListForm.{list_faults}
use Rattle.rules.specs.FactSets.{FactSets}
use Rattle.rules.specs.BoundsRules.{nothing_known, upper_limit}
use Rattle.rules.specs.Rules.{new_state, block_faults}
use Rattle.rules.specs.Calls.{Routine}
use Rattle.rules.specs.declared.Bounds.{Bounds}
use Rattle.rules.specs.declared.Environment.{Environment}

-- ---- what a table declares

abbrev pub bounds_of : Option Variable → Bounds
bounds_of (Some (Pointer s l u)) = record { size = s; lower = Some l; upper = Some u }
bounds_of (Some Integer) = nothing_known
bounds_of None = nothing_known

-- Point 10: the element size of a pointer; of any other variable 1.
abbrev pub variable_size : Option Variable → ℕ
variable_size (Some (Pointer s l u)) = s
variable_size (Some Integer) = 1
variable_size None = 1

-- Point 2: "bounds rows of six words, two ends each". (Their size is that of the pointer of the kind 14: `row_bound`.)
abbrev pub row_bounds : Option BoundsRow → Bounds
row_bounds (Some r) = record { size = 1; lower = Some r.lower; upper = Some r.upper }
row_bounds None = nothing_known

-- Of variables, of objects and of rows one entry for each number; where zero, the number 16, is asked about too, one for it.
unfoldable pub environment_of : List ℤ → Sections → Environment
environment_of T h =
    record {
      pointers = tabulate 17 (pointer_at T h);
      strings = tabulate 17 (string_at T h);
      sizes = tabulate 16 (λ v. variable_size (variable_at T h v));
      declared = tabulate 16 (λ v. bounds_of (variable_at T h v));
      lengths = tabulate 16 (object_at T h);
      terminated = tabulate 16 (object_terminated T h);
      spans = tabulate 16 (λ o. upper_limit (object_terminated T h o) (object_at T h o));
      rows = tabulate 64 (λ r. row_bounds (row_at T h r));
    }

-- ---- the verdict

module _ (S : FactSets) (callees : List Routine) where
  -- Cause 6, then the form of the list L of loop facts (point 9: "found after 6, before the walk"), then the walk.
  unfoldable pub section_faults : List ℤ → Sections → List ℤ → List Refusal
  section_faults T h L = also (layout T h) (also (list_faults T h L) (block_faults S (environment_of T h) L callees (tree T h) (new_state S)))

  -- The first of the causes 1 to 5, else what follows them.
  abbrev pub form_faults : List ℤ → List ℤ → Result Sections Refusal → List Refusal
  form_faults T L (Err r) = r ∷ []
  form_faults T L (Ok h) = section_faults T h L

  -- The faults of a table and its list in the order of the paper, of causes 1 to 5 the first alone. The first is the verdict; a table with none is accepted.
  unfoldable pub faults : List ℤ → List ℤ → List Refusal
  faults T L = form_faults T L (form_of T)

-- The verdict: "accepted if the printed rules accept it and refused, by the first rule it breaks, if they do not".
unfoldable pub verdict_of : List Refusal → Result (Unit {0}) Refusal
verdict_of [] = Ok tt
verdict_of (r ∷ rs) = Err r

-- ---- what a verdict reads as, in the paper's numbers

pub data Reading : Type 0 where
  accepted : Reading
  -- the refusal's number, its place, its pointer
  refused : ℕ → ℕ → ℕ → Reading

abbrev pub verdict_reads : Result (Unit {0}) Refusal → Reading
verdict_reads (Ok tt) = accepted
verdict_reads (Err r) = refused (number r) (place r) (pointer r)

-- "refused, by the first rule it breaks"
abbrev pub first_reads : List Refusal → Reading
first_reads [] = accepted
first_reads (r ∷ rs) = refused (number r) (place r) (pointer r)

-- What a verdict says, given all faults.
pub record Says (fs : List Refusal) (v : Result (Unit {0}) Refusal) : Type 0 where
  pub verdict : v ≡ verdict_of fs
  pub reads : verdict_reads v ≡ first_reads fs
