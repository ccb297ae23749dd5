-- All words of a file.
use Rattle.std.specs.Prelude.{ℕ, ◌*◌, ◌/◌, ◌≤◌, min, ◌≡◌, List, ℤ, length}
use Rattle.std.proofs.Common.{subst, arith}
use Rattle.arrays.specs.TabulateLaws.{Filled}
use Rattle.files.specs.Files.{word_at}
use Rattle.files.specs.Reading.{WordsRead}

-- The loop over the words has ended.
pub words-read : {bytes : List ℕ} {old table : List ℤ} {count i : ℕ} → Filled table old (length old) (λ j. word_at bytes (4 * j)) i → i ≤ count → count ≤ i
    → count ≡ min (length bytes / 4) (length old) → WordsRead bytes old count table
words-read {bytes} {old} {table} {count} {i} p h g e =
    let q : i ≡ count = omega arith in
    record { many = e; filled = subst (λ (n : ℕ). Filled table old (length old) (λ j. word_at bytes (4 * j)) n) q p }
