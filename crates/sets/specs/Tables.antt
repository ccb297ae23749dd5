-- A lent set (document 02, point 14): the words of its tables, one table after the other, and their lengths, one a routine.
use Rattle.std.specs.Prelude.{ℕ, List, ℤ, length}
use Rattle.arrays.specs.Tabulate.{tabulate}
use Rattle.parts.specs.Parts.{part_of}

-- The tables of the set; one that reaches past the words is cut there.
unfoldable pub tables_in : List ℤ → List ℕ → List (List ℤ)
tables_in W L = tabulate (length L) (λ n. part_of L 1 0 n W)
