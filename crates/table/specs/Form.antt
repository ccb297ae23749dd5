-- Causes of refusal 1 to 5: "Causes 1 to 6 come in that order over the whole table, lowest place first."
use Rattle.answers.specs.declared.refusals.Refusal.{Refusal}
use Rattle.statements.specs.declared.Statement.{Statement}
use Rattle.table.specs.declared.variables.BoundsRow.{BoundsRow}
use Rattle.table.specs.declared.variables.Variable.{Variable}
use Rattle.std.specs.Prelude.{ℕ, zero, suc, ◌+◌, ◌*◌, ◌/◌, Bool, true, false, ◌&&◌, cond, ◌||◌, List, ℤ, length, leb, ltb, eqb, is_some}
use Rattle.std.specs.Prelude.{Err, None, Ok, Option, Result, Some}
use Rattle.sums.specs.Numbers.{bias}
use Rattle.answers.specs.declared.refusals.Refusal.TheVariants.{Length, Directory, ObjectLength, VariableRecord, StatementRecord}
use Rattle.words.specs.Words.{word}
use Rattle.words.specs.Fields.{plain}
use Rattle.words.specs.Sections.{in_limits, variables_start, statements_start, rows_start, table_end}
use Rattle.words.specs.declared.sections.Sections.{Sections}
use Rattle.statements.specs.Statements.{statement_at}
use Rattle.table.specs.Variables.{variable_at, object_at, row_at}

-- The word is the number n.
unfoldable pub is_number : ℕ → ℕ → Bool
is_number n w = leb bias w && eqb (plain w) n

-- Point 2: "A first offset of 8 means a fourth pair and section".
unfoldable pub four_pairs : List ℤ → Bool
four_pairs table = is_number 8 (word table 0)

-- Cause 1: "below 6 or above 7,318 words"; with a fourth pair "up to 7,704 words in all".
unfoldable pub length_right : List ℤ → Bool
length_right table = leb 6 (length table) && leb (length table) (cond (four_pairs table) 7704 7318)

-- The sizes that the lengths of the directory give: "one word each", "8 words each", "7 words each", "six words".
unfoldable pub sections_of : List ℤ → Sections
sections_of table =
    record {
      start = cond (four_pairs table) 8 6;
      objects = plain (word table 1);
      variables = plain (word table 3) / 8;
      statements = plain (word table 5) / 7;
      rows = cond (four_pairs table) (plain (word table 7) / 6) 0;
    }

-- The fourth pair, where there is one.
unfoldable pub fourth_right : List ℤ → Sections → Bool
fourth_right table h = eqb h.start 6 || is_number (rows_start h) (word table 6) && is_number (6 * h.rows) (word table 7)

-- Cause 2: "The first offset is 6", or 8 with a fourth pair (`start_right`), "each next one is the previous offset plus its length, and the last section
-- ends the table."
unfoldable pub directory_right : List ℤ → Sections → Bool
directory_right table h =
    in_limits h && (
    is_number h.start (word table 0) && is_number h.objects (word table 1) && is_number (variables_start h) (word table 2)
    && is_number (8 * h.variables) (word table 3) && is_number (statements_start h) (word table 4) && is_number (7 * h.statements) (word table 5)
    && fourth_right table h && eqb (length table) (table_end h)
    )

-- Causes 1 and 2 do not refuse the table.
unfoldable pub head_right : List ℤ → Bool
head_right table = length_right table && directory_right table (sections_of table)

-- Cause 3: "its length in cells, 1 to 1,000,000".
unfoldable pub object_right : List ℤ → Sections → ℕ → Bool
object_right table h o = leb 1 (object_at table h o) && leb (object_at table h o) 1000000

-- Cause 4: the record reads.
unfoldable pub variable_reads : List ℤ → Sections → ℕ → Bool
variable_reads table h v = is_some (variable_at table h v)

-- Cause 4, of a row.
unfoldable pub row_reads : List ℤ → Sections → ℕ → Bool
row_reads table h r = is_some (row_at table h r)

-- Cause 5: the record reads.
unfoldable pub statement_reads : List ℤ → Sections → ℕ → Bool
statement_reads table h a = is_some (statement_at table h a)

-- Of n numbers from i on, the lowest at which the test fails; where it holds at all of them, the number after them.
unfoldable pub lowest_from : (ℕ → Bool) → ℕ → ℕ → ℕ
lowest_from right i zero = i
lowest_from right i (suc n) = cond (right i) (lowest_from right (i + 1) n) i

unfoldable pub lowest_object : List ℤ → Sections → ℕ
lowest_object table h = lowest_from (object_right table h) 0 h.objects

unfoldable pub lowest_variable : List ℤ → Sections → ℕ
lowest_variable table h = lowest_from (variable_reads table h) 0 h.variables

unfoldable pub lowest_row : List ℤ → Sections → ℕ
lowest_row table h = lowest_from (row_reads table h) 0 h.rows

unfoldable pub lowest_statement : List ℤ → Sections → ℕ
lowest_statement table h = lowest_from (statement_reads table h) 0 h.statements

-- Causes 3 to 5, "lowest place first". Point 2: "A faulty row is refusal 4 with the place number of variables plus row."
unfoldable pub items_form : List ℤ → Sections → Result Sections Refusal
items_form table h =
    cond (ltb (lowest_object table h) h.objects) (Err (ObjectLength (lowest_object table h)))
    (cond (ltb (lowest_variable table h) h.variables) (Err (VariableRecord (lowest_variable table h)))
    (cond (ltb (lowest_row table h) h.rows) (Err (VariableRecord (h.variables + lowest_row table h)))
    (cond (ltb (lowest_statement table h) h.statements) (Err (StatementRecord (lowest_statement table h))) (Ok h))))

-- The first of the causes 1 to 5; where there is none, the sections.
unfoldable pub form_of : List ℤ → Result Sections Refusal
form_of table = cond (length_right table)
    (cond (directory_right table (sections_of table)) (items_form table (sections_of table)) (Err Directory)) (Err Length)
