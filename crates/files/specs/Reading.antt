-- What reading the words of a file leaves in the table.
use Rattle.std.specs.Prelude.{ℕ, ◌*◌, ◌/◌, min, ◌≡◌, List, ℤ, length}
use Rattle.arrays.specs.TabulateLaws.{Filled}
use Rattle.files.specs.Files.{word_at}

-- Of a file's words as many as there is room for are at the front of `table`; behind them it is `old` still.
pub record WordsRead (bytes : List ℕ) (old : List ℤ) (count : ℕ) (table : List ℤ) : Type 0 where
  pub many : count ≡ min (length bytes / 4) (length old)
  pub filled : Filled table old (length old) (λ i. word_at bytes (4 * i)) count
