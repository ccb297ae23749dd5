-- The line that is printed for a verdict.
use Rattle.std.specs.Prelude.{cond, ℕ, List, [], ◌∷◌, ◌++◌, eqb}
use Rattle.rules.specs.Verdict.{Reading, accepted, refused}
use Rattle.text.specs.Text.{bytes_of, decimal}

-- "it prints the one line `refused 8 0 0`: number, statement, pointer. Others print `refused`, number and place; else `accepted`."
abbrev pub space : ℕ
space = 32

abbrev pub line_feed : ℕ
line_feed = 10

unfoldable pub refused_word : List ℕ
refused_word = bytes_of "refused"

unfoldable pub accepted_word : List ℕ
accepted_word = bytes_of "accepted"

-- A number after a space.
unfoldable pub spaced : ℕ → List ℕ
spaced n = space ∷ decimal 20 n

unfoldable pub refused_line : ℕ → ℕ → ℕ → List ℕ
refused_line number place pointer =
    refused_word ++ (spaced number ++ (spaced place ++ (cond (eqb number 8) (spaced pointer) [] ++ (line_feed ∷ []))))

-- The line of a verdict, by what it reads as.
unfoldable pub line_of : Reading → List ℕ
line_of accepted = accepted_word ++ (line_feed ∷ [])
line_of (refused n a p) = refused_line n a p
