-- What a search by number answers.
use Rattle.std.specs.Prelude.{ℕ, ◌≤◌, ◌<◌, Bool, true, false}

-- `answers i b`: at i the test may answer b. Below `found` it answers false, and there true, unless that is the end.
pub record LowestAt (answers : ℕ → Bool → Type 0) (count found : ℕ) : Type 0 where
  pub within : found ≤ count
  pub before : (i : ℕ) → i < found → answers i false
  pub there : found < count → answers found true
