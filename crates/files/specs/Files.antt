-- "The verdict program reads a file on standard input": the verdict on a file's bytes.
use Rattle.std.specs.Prelude.{ℕ, ◌*◌, ◌/◌, ◌%◌, ◌+◌, ◌-◌, ◌^◌, cond, List, [], ◌∷◌, eqb, ltb, ℤ, pos, negsuc, length, get_or, Result}
use Rattle.arrays.specs.Tabulate.{tabulate}
use Rattle.answers.specs.declared.refusals.Refusal.{Refusal}
use Rattle.answers.specs.declared.refusals.Refusal.TheVariants.{Length}
use Rattle.rules.specs.Verdict.{faults, Says}
use Rattle.rules.specs.FactSets.{FactSets}
use Rattle.rules.specs.ByChains.{by_chains, Decided}

-- ---- words: "Signed 32-bit words; in a file two's complement, little-endian."
-- "two's complement": a pattern of 32 bits from 2^31 on stands for the number 2^32 less.
unfoldable pub signed_of : ℕ → ℤ
signed_of u = cond (ltb u (2 ^ 31)) (pos u) (negsuc (2 ^ 32 - 1 - u))

-- "little-endian": four bytes, the lowest first.
unfoldable pub word_at : List ℕ → ℕ → ℤ
word_at bytes i =
    signed_of (get_or bytes i 0 + 256 * get_or bytes (i + 1) 0 + 65536 * (get_or bytes (i + 2) 0 + 256 * get_or bytes (i + 3) 0))

-- The words of a file.
unfoldable pub words_of : List ℕ → List ℤ
words_of bytes = tabulate (length bytes / 4) (λ i. word_at bytes (4 * i))

-- "file: length not a multiple of 4" is cause 1, place 0; else the faults of the table that the words are. A file has no list of loop facts (point 9).
unfoldable pub file_faults : FactSets → List ℕ → List Refusal
file_faults S bytes = cond (eqb (length bytes % 4) 0) (faults S [] (words_of bytes) []) (Length ∷ [])

-- THE VERDICT ON A FILE, by the paper's chains of the facts of its table: it answers the first fault.
unfoldable pub FileJudged : List ℕ → Result (Unit {0}) Refusal → Type 0
FileJudged bytes v = Decided (words_of bytes) (λ d. Says (file_faults (by_chains d) bytes) v)
