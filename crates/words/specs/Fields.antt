-- What the word of one field is, and what it may be (document 01, "The routine table").
use Rattle.std.specs.Prelude.{ℕ, ◌+◌, ◌-◌, ◌%◌, ◌^◌, Bool, ◌&&◌, cond, leb, ltb, eqb}
use Rattle.sums.specs.Numbers.{bias, zero_var}

-- A word that is 0 or more, as it is. A negative word, which no field of this sort may be, gives 0.
abbrev pub plain : ℕ → ℕ
plain w = w - bias

-- "an integer variable or -1": a missing integer has the number that stands for zero.
unfoldable pub index_of : ℕ → ℕ
index_of w = cond (eqb w (bias - 1)) zero_var (plain w)

-- A field that is 0, as unused ones are.
abbrev pub is_zero : ℕ → Bool
is_zero w = eqb w bias

-- A word of 0 to n - 1.
unfoldable pub is_below : ℕ → ℕ → Bool
is_below n w = leb bias w && ltb (plain w) n

-- "A count below 0 at an if or while is refusal 5."
abbrev pub is_count : ℕ → Bool
is_count w = is_below (2 ^ 31) w

-- One more than the greatest value of a literal.
abbrev pub literal_limit : ℕ
literal_limit = 2 ^ 32

-- Point 1: "A negative word as an integer literal means that word plus 4,294,967,296": the word modulo 4,294,967,296, of which the bias is a multiple.
unfoldable pub literal_value : ℕ → ℕ
literal_value w = w % literal_limit

-- "Each k, in ends too, is -65,536 to 65,536."
unfoldable pub is_constant : ℕ → Bool
is_constant w = leb (bias - 65536) w && leb w (bias + 65536)
