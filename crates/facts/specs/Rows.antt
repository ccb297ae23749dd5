-- The rows that the code makes on its way. No public method's contract speaks of them.
use Rattle.std.specs.Prelude.{ℕ, ◌^◌, ◌<◌, min, max, ◌≡◌, List, Bool, true, cond, ◌&&◌, get_or, eqb, leb, ltb}
use Rattle.sums.specs.Numbers.{zero_var}
use Rattle.sums.specs.Sums.{concatenated}
use Rattle.facts.specs.Store.{in_row, row_of, same}
use Rattle.facts.specs.declared.rows.Row.{Row}

-- A sum far from both ends of the range: two of these add up to a sum in range.
unfoldable pub is_plain : ℕ → Bool
is_plain s = leb 4294967296 s && ltb s (2 ^ 40)

pub record AllPlain (sums : List ℕ) (n : ℕ) : Type 0 where
  pub each : (j : ℕ) → j < n → is_plain (get_or sums j 0) ≡ true

-- A row that falls: each sum lowered to the chain that begins with `start` and goes on as `through`.
unfoldable pub shortened_row : Row → ℕ → Row → Row
shortened_row row start through = row_of (λ j. min (in_row row j) (concatenated start (in_row through j)))

-- The greater of each two sums.
unfoldable pub greatest_row : Row → Row → Row
greatest_row a b = row_of (λ j. max (in_row a j) (in_row b j))

-- The row of a pointer, or of an integer, with the sums to the other kind through zero.
unfoldable pub through_zero : (ℕ → Bool) → Bool → Row → Row → Row
through_zero pointers pointer row zeros =
    row_of (λ j. cond (cond (eqb j zero_var) true (same pointer (pointers j))) (in_row row j) (concatenated (in_row row zero_var) (in_row zeros j)))
