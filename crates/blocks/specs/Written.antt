-- The flow as the code writes it: the successors of a whole table in a slice.
use Rattle.std.specs.Prelude.{ℕ, ◌+◌, ◌*◌, ◌%◌, ◌^◌, ◌<◌, ◌≤◌, Bool, true, false, List, [], ◌∷◌, ◌≡◌, ℤ, length, set, leb}
use Rattle.words.specs.declared.sections.Sections.{Sections}
use Rattle.blocks.specs.Flow.{Successors, table_flow}

-- Successors in a slice of 32-bit entries: 2 * s is the next of statement s, 2 * s + 1 its other.
-- The successors in a table that is laid out are at most its number of statements (`flow-bounded`), so that the remainder is the number.
unfoldable pub put : List ℕ → Successors → List ℕ
put w l = set (set w (2 * l.statement) (l.next % 2 ^ 32)) (2 * l.statement + 1) (l.other % 2 ^ 32)

unfoldable pub written : List Successors → List ℕ → List ℕ
written [] w = w
written (l ∷ ls) w = written ls (put w l)

abbrev pub written_if : Bool → List Successors → List ℕ → List ℕ
written_if true ls w = written ls w
written_if false ls w = w

-- What is written into the slice w, and whether: a slice with fewer than two entries a statement is left as it was.
pub record Written (T : List ℤ) (h : Sections) (w : List ℕ) (r : Bool) (v : List ℕ) : Type 0 where
  pub fits : r ≡ leb (2 * h.statements) (length w)
  pub entries : v ≡ written_if (leb (2 * h.statements) (length w)) (table_flow T h) w

-- What is due where the block of a to b - 1 begins, with l statements left: `entry` by the numbers alone.
pub record FirstDue (l a b after r : ℕ) : Type 0 where
  pub none : l ≤ 0 → r ≡ after
  pub end : b ≤ a → r ≡ after
  pub some : 0 < l → a < b → r ≡ a
