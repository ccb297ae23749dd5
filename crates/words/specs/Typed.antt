-- What is known of a field that was tested: the variable that it names, the range of its constant.
use Rattle.std.specs.Prelude.{ℕ, ◌+◌, ◌-◌, ◌≤◌, ◌<◌, ◌≡◌, true, List, ℤ}
use Rattle.sums.specs.Numbers.{bias, zero_var}
use Rattle.words.specs.Sections.{integer_at, pointer_at}
use Rattle.words.specs.declared.sections.Sections.{Sections}

pub record IsInteger (table : List ℤ) (h : Sections) (v : ℕ) : Type 0 where
  pub below : v < h.variables
  pub kind : integer_at table h v ≡ true

pub record IsPointer (table : List ℤ) (h : Sections) (v : ℕ) : Type 0 where
  pub below : v < h.variables
  pub kind : pointer_at table h v ≡ true

-- An integer variable, or the number that stands for zero.
pub data IsIndex (table : List ℤ) (h : Sections) (v : ℕ) : Type 0 where
  missing : v ≡ zero_var → IsIndex table h v
  given : IsInteger table h v → IsIndex table h v

-- -65,536 to 65,536, biased.
pub record IsSmall (k : ℕ) : Type 0 where
  pub low : bias - 65536 ≤ k
  pub high : k ≤ bias + 65536
