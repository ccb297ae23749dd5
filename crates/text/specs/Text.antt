-- Text as a list of bytes.
use Rattle.std.specs.Prelude.{ℕ, zero, suc, ◌+◌, ◌/◌, ◌%◌, ◌≤◌, ◌≡◌, cond, List, [], ◌∷◌, ◌++◌, ltb, length, take}
use Prim.Native.Char.{code}
use Prim.Native.String as string
use Rattle.text.specs.declared.Text.{Text}

-- Text in quotes as bytes; a letter's code is its byte.
unfoldable pub bytes_of : string.String → List ℕ
bytes_of string.[] = []
bytes_of (string.◌∷◌ c s) = code c ∷ bytes_of s

abbrev pub text_of : Text → List ℕ
text_of t = take t.len t.bytes

-- A number in decimal, of at most so many digits.
unfoldable pub decimal : ℕ → ℕ → List ℕ
decimal zero n = []
decimal (suc f) n = cond (ltb n 10) ((48 + n) ∷ []) (decimal f (n / 10) ++ ((48 + n % 10) ∷ []))

-- `after` is the text `before`, of `len` bytes, with `more` at its end.
pub record Grown (before more : List ℕ) (len : ℕ) (after : Text) : Type 0 where
  pub text : text_of after ≡ before ++ more
  pub long : after.len ≡ len + length more

-- The text `t` is the bytes `line`, and fits its array.
pub record Line (line : List ℕ) (t : Text) : Type 0 where
  pub text : text_of t ≡ line
  pub fits : t.len ≤ 120
