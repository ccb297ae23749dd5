-- Sums in range are added as numbers are.
use Rattle.std.specs.Prelude.{ℕ, ◌+◌, ◌-◌, ◌^◌, ◌<◌, ◌≡◌}
use Rattle.std.proofs.lemmas.Bool.{lt-leb}
use Rattle.sums.specs.Numbers.{bias}
use Rattle.sums.specs.Sums.{concatenated}

pub concat-plain : (a b : ℕ) → a < 2 ^ 40 → b < 2 ^ 40 → concatenated a b ≡ a + b - bias
unfolding concatenated
concat-plain a b ha hb = rw (lt-leb (2 ^ 40) a ha, lt-leb (2 ^ 40) b hb)
