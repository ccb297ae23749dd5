-- What holds of a condition that was read: what its sides name, and their ranges.
use Rattle.std.specs.Prelude.{ℕ, ◌<◌, ◌≡◌, List, ℤ}
use Rattle.sums.specs.Numbers.{zero_var}
use Rattle.words.specs.Fields.{literal_limit}
use Rattle.words.specs.Typed.{IsInteger, IsPointer}
use Rattle.words.specs.declared.sections.Sections.{Sections}
use Rattle.conditions.specs.declared.Condition.{Condition}

-- The sides of a condition: two variables of one kind, an integer and a literal, a pointer and 0.
pub data Sides (table : List ℤ) (h : Sections) (left right offset : ℕ) : Type 0 where
  integers : IsInteger table h left → IsInteger table h right → offset ≡ 0 → Sides table h left right offset
  pointers : IsPointer table h left → IsPointer table h right → offset ≡ 0 → Sides table h left right offset
  literal : IsInteger table h left → right ≡ zero_var → offset < literal_limit → Sides table h left right offset
  null : IsPointer table h left → right ≡ zero_var → offset ≡ 0 → Sides table h left right offset

pub record ConditionTyped (table : List ℤ) (h : Sections) (c : Condition) : Type 0 where
  pub relation : c.relation < 6
  pub sides : Sides table h c.left c.right c.offset
