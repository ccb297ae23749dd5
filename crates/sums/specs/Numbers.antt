-- The numbers that every crate shares: no sentence of the paper, but how its whole numbers are held.
use Rattle.std.specs.Prelude.{ℕ, ◌-◌, ◌^◌}

-- Sums, constants and ends may be negative; each is kept as the natural number that is `bias` more.
abbrev pub bias : ℕ
bias = 2 ^ 33

-- The greatest value of a variable, 4,294,967,295.
abbrev pub max_value : ℕ
max_value = 2 ^ 32 - 1

-- A routine has at most 16 variables, numbered from 0. The number after theirs stands for zero (the zero variable of a difference-bound matrix).
abbrev pub zero_var : ℕ
zero_var = 16
