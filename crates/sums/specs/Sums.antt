-- Sums of chains, each kept as the natural number that is `bias` more.
use Rattle.std.specs.Prelude.{ℕ, ◌+◌, ◌-◌, ◌^◌, cond, leb}
use Rattle.sums.specs.Numbers.{bias, max_value}

-- What a sum that is out of range counts as.
abbrev pub unbounded : ℕ
unbounded = 2 ^ 64 - 1

-- The sum of two chains, one after the other; of sums in range it is a + b.
unfoldable pub concatenated : ℕ → ℕ → ℕ
concatenated a b = cond (leb (2 ^ 40) a) unbounded (cond (leb (2 ^ 40) b) unbounded (a + b - bias))

-- The sum with the other sign.
abbrev pub negated : ℕ → ℕ
negated a = bias + bias - a

-- The greatest value less a: what can be raised by a is at most this.
abbrev pub room_above : ℕ → ℕ
room_above a = bias + max_value + bias - a
