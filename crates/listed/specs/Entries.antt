-- The list of loop facts that is lent beside a routine (document 02, point 9): "at most 256 entries (while statement, x, y, k), sorted by statement, each
-- meaning x <= y + k at every test; -1 stands for zero." Four words an entry.
use Rattle.std.specs.Prelude.{ℕ, zero, suc, ◌+◌, ◌*◌, ◌/◌, ◌≤◌, Bool, true, false, List, [], ◌∷◌, ℤ, length, eqb}
use Rattle.sums.specs.Numbers.{bias}
use Rattle.words.specs.Words.{word}
use Rattle.words.specs.Fields.{index_of}
use Rattle.listed.specs.declared.Entry.{Entry}

abbrev pub while_word : List ℤ → ℕ → ℕ
while_word L e = word L (4 * e)

abbrev pub left_word : List ℤ → ℕ → ℕ
left_word L e = word L (4 * e + 1)

abbrev pub right_word : List ℤ → ℕ → ℕ
right_word L e = word L (4 * e + 2)

abbrev pub offset_word : List ℤ → ℕ → ℕ
offset_word L e = word L (4 * e + 3)

-- How many entries there are, the last one perhaps cut short.
abbrev pub entry_count : List ℤ → ℕ
entry_count L = (length L + 3) / 4

-- The entry of a number: left <= right + offset, with the bias in the offset.
unfoldable pub entry_at : List ℤ → ℕ → Entry
entry_at L e = record { number = e; left = index_of (left_word L e); right = index_of (right_word L e); offset = offset_word L e }

abbrev pub entry_if : Bool → Entry → List Entry → List Entry
entry_if true x xs = x ∷ xs
entry_if false x xs = xs

-- The entry belongs to the while statement a.
unfoldable pub belongs : List ℤ → ℕ → ℕ → Bool
belongs L a e = eqb (while_word L e) (bias + a)

-- Of n entries from number e on, those of the while statement a.
unfoldable pub entries_from : List ℤ → ℕ → ℕ → ℕ → List Entry
entries_from L a e zero = []
entries_from L a e (suc n) = entry_if (belongs L a e) (entry_at L e) (entries_from L a (e + 1) n)

-- "all entries of that loop"
unfoldable pub entries_of : List ℤ → ℕ → List Entry
entries_of L a = entries_from L a 0 (entry_count L)

-- "each meaning x <= y + k": all of them, of the values v.
abbrev pub EntriesHold : List Entry → (ℕ → ℕ) → Type 0
EntriesHold [] v = Unit {0}
EntriesHold (e ∷ es) v = (v e.left + bias ≤ v e.right + e.offset) × EntriesHold es v
