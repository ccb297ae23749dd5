-- What a rehearsal tells a scorer: each late boat's row, or why it got none; the rows left; the row that two laptops must not share; corrected times.
use Rattle.std.specs.Prelude.{cond, ℕ, List, ◌++◌, eqb}
use Rattle.answers.specs.Refusals.{number, place, pointer}
use Rattle.answers.specs.declared.refusals.Refusal.{Refusal}
use Rattle.answers.specs.Answers.{check_number, check_statement}
use Rattle.answers.specs.declared.stops.Check.{Check}
use Rattle.answers.specs.declared.stops.Outcome.{Outcome}
use Rattle.answers.specs.declared.stops.Outcome.TheVariants.{Done, Spent, Stopped, Refused}
use Rattle.text.specs.Text.{bytes_of, decimal}

abbrev pub numeral : ℕ → List ℕ
numeral n = decimal 20 n

-- "8: statement or bundle head", and the lowest pointer not shown; the others have a place.
unfoldable pub refused_text : Refusal → List ℕ
refused_text r =
    (bytes_of ": refused " ++ numeral (number r))
    ++ cond (eqb (number r) 8)
    ((bytes_of " at statement " ++ numeral (place r)) ++ (bytes_of ", pointer " ++ numeral (pointer r)))
    (bytes_of " at place " ++ numeral (place r))

-- "A stopped run carries its check", and "stopped and spent give the statement".
unfoldable pub stopped_text : Check → List ℕ
stopped_text c = (bytes_of ": stopped at check " ++ numeral (check_number c)) ++ (bytes_of " at statement " ++ numeral (check_statement c))

-- A routine for late entries that ends done has given the boat the row that its row pointer named at the start.
unfoldable pub entry_text : ℕ → Outcome → List ℕ
entry_text row (Done n) = bytes_of ": row " ++ numeral row
entry_text row (Spent n a) = (bytes_of ": spent after " ++ numeral n) ++ (bytes_of " steps at statement " ++ numeral a)
entry_text row (Stopped n c) = stopped_text c
entry_text row (Refused r) = refused_text r

unfoldable pub entry_line : ℕ → ℕ → Outcome → List ℕ
entry_line boat row o = ((bytes_of "boat " ++ numeral boat) ++ entry_text row o) ++ bytes_of "\n"

-- "Late boats took the next rows until the block was full."
unfoldable pub left_line : ℕ → List ℕ
left_line rows = cond (eqb rows 0) (bytes_of "the block is full\n") ((bytes_of "rows left: " ++ numeral rows) ++ bytes_of "\n")

-- A row that holds no boat has 0 in its cell.
unfoldable pub row_line : ℕ → ℕ → List ℕ
row_line row boat =
    (bytes_of "row " ++ numeral row) ++ cond (eqb boat 0) (bytes_of " is free\n") ((bytes_of " holds boat " ++ numeral boat) ++ bytes_of "\n")

-- "The row past the end was the first row of the other laptop's block."
unfoldable pub first_row_line : ℕ → ℕ → List ℕ
first_row_line before after =
    cond (eqb before after)
    ((bytes_of "the other laptop's first row still holds " ++ numeral before) ++ bytes_of "\n")
    (((bytes_of "the other laptop's first row held " ++ numeral before) ++ (bytes_of " and now holds " ++ numeral after)) ++ bytes_of "\n")

-- Point 14: what "the handicap formula" makes of a boat's elapsed time.
unfoldable pub corrected_line : ℕ → ℕ → List ℕ
corrected_line boat seconds = ((bytes_of "boat " ++ numeral boat) ++ (bytes_of ": corrected time " ++ numeral seconds)) ++ bytes_of "\n"
