-- The statements that are reported, as bits of 32 words.
use Rattle.std.specs.Prelude.{ℕ, ◌/◌, ◌%◌, ◌^◌, Bool, cond, List, eqb, get_or, set, replicate}
use Rattle.std.specs.Int.Bits.{bit_or}

-- No bit is set.
abbrev pub no_words : List ℕ
no_words = replicate 32 0

-- Bit k of a word is set.
unfoldable pub bit_at : ℕ → ℕ → Bool
bit_at k w = eqb (w / 2 ^ k % 2) 1

-- The words with the bit of statement a.
unfoldable pub marked : List ℕ → ℕ → List ℕ
marked ws a = set ws (a / 32) (bit_or (get_or ws (a / 32) 0) (2 ^ (a % 32)))

-- The same, where the statement is safe.
unfoldable pub marked_if : Bool → List ℕ → ℕ → List ℕ
marked_if safe ws a = cond safe (marked ws a) ws

-- Statement d is reported.
unfoldable pub reported : List ℕ → ℕ → Bool
reported ws d = bit_at (d % 32) (get_or ws (d / 32) 0)
