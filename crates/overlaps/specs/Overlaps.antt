-- Document 02, point 5, refusal 14: "the first routine whose objects overlap an earlier one's".
use Rattle.std.specs.Prelude.{ℕ, min, max, Bool, not, List, ltb}
use Rattle.table.specs.Form.{lowest_from}
use Rattle.machine.specs.Machine.{low, high}
use Rattle.seats.specs.Lends.{Lends, lent_to, sections_at, count_of}

-- Objects o of the directory D and k of F share a cell; "touching is no overlap".
abbrev pub share_cell : List ℕ → ℕ → List ℕ → ℕ → Bool
share_cell D o F k = ltb (max (low D o) (low F k)) (min (high D o) (high F k))

-- The lowest of n numbers of which something is so, or n.
abbrev pub lowest : (ℕ → Bool) → ℕ → ℕ
lowest f n = lowest_from (λ i. not (f i)) 0 n

-- Something is so of a number below n.
abbrev pub some : (ℕ → Bool) → ℕ → Bool
some f n = ltb (lowest f n) n

-- Objects of the directories D and F, n and m of them, overlap.
unfoldable pub overlap : List ℕ → ℕ → List ℕ → ℕ → Bool
overlap D n F m = some (λ o. some (λ k. share_cell D o F k) m) n

-- "objects overlap an earlier one's"
unfoldable pub overlaps_earlier : Lends → ℕ → Bool
overlaps_earlier l r =
    some (λ e. overlap (lent_to l r).directory (sections_at l r).objects (lent_to l e).directory (sections_at l e).objects) r

-- "14 comes last and names the first routine whose objects overlap an earlier one's"; the count of routines where there is none.
unfoldable pub first_overlap : Lends → ℕ
first_overlap l = lowest (overlaps_earlier l) (count_of l)
