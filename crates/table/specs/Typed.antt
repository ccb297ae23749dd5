-- What holds of a variable that was read: what its ends name, and their ranges.
use Rattle.std.specs.Prelude.{ℕ, ◌≤◌, ◌≡◌, true, List, ℤ}
use Rattle.words.specs.Sections.{integer_at, pointer_at}
use Rattle.words.specs.Typed.{IsPointer, IsIndex, IsSmall}
use Rattle.words.specs.declared.sections.Sections.{Sections}
use Rattle.table.specs.declared.variables.End.{End}
use Rattle.table.specs.declared.variables.Variable.{Variable}
use Rattle.table.specs.declared.variables.Variable.TheVariants.{Integer, Pointer}

pub record EndTyped (table : List ℤ) (h : Sections) (e : End) : Type 0 where
  pub pointer : IsPointer table h e.pointer
  pub integer : IsIndex table h e.integer
  pub constant : IsSmall e.constant

-- A pointer's record: its kind, its element size, and what its ends name.
pub record PointerTyped (table : List ℤ) (h : Sections) (v size : ℕ) (low high : End) : Type 0 where
  pub kind : pointer_at table h v ≡ true
  pub few : size ≤ 8
  pub lower : EndTyped table h low
  pub upper : EndTyped table h high

-- A row's ends.
pub record RowTyped (table : List ℤ) (h : Sections) (low high : End) : Type 0 where
  pub lower : EndTyped table h low
  pub upper : EndTyped table h high

abbrev pub VariableTyped : List ℤ → Sections → ℕ → Variable → Type 0
VariableTyped table h v Integer = integer_at table h v ≡ true
VariableTyped table h v (Pointer size lower upper) = PointerTyped table h v size lower upper
