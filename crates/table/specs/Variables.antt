-- What the record of a variable reads as, and the length of an object (document 01, "The routine table").
use Rattle.table.specs.declared.variables.BoundsRow.{BoundsRow}
use Rattle.table.specs.declared.variables.Variable.{Variable}
use Rattle.std.specs.Prelude.{ℕ, ◌+◌, ◌-◌, Bool, ◌&&◌, cond, false, true, List, ℤ, ltb, leb, eqb, None, Option, Some}
use Rattle.sums.specs.Numbers.{bias}
use Rattle.words.specs.Words.{word}
use Rattle.words.specs.Fields.{plain, index_of, is_zero, is_constant}
use Rattle.words.specs.Sections.{in_limits, is_variable, object_start, variable_start, names_pointer, names_index, row_start, kind_of, kind_is}
use Rattle.words.specs.declared.sections.Sections.{Sections}
use Rattle.table.specs.declared.variables.End.{End}
use Rattle.table.specs.declared.variables.Variable.TheVariants.{Integer, Pointer}
use Rattle.table.specs.declared.variables.EndWords.{EndWords}
use Rattle.table.specs.declared.variables.RowWords.{RowWords}
use Rattle.table.specs.declared.variables.VariableWords.{VariableWords}

-- "An end is three words."
unfoldable pub end_words_at : List ℤ → ℕ → EndWords
end_words_at table i = record { pointer = word table i; integer = word table (i + 1); constant = word table (i + 2) }

-- "Kind, a 0, then the lower end and the upper end": eight words. Point 10: "The word after a pointer's kind is now its element size s".
unfoldable pub variable_words_at : List ℤ → ℕ → VariableWords
variable_words_at table i = record { kind = word table i; size = word table (i + 1); lower = end_words_at table (i + 2); upper = end_words_at table (i + 5) }

-- "an array_ptr variable, an integer variable or -1, a constant k"; point 7: "Ends may name both kinds of pointer."
unfoldable pub end_right : List ℤ → Sections → EndWords → Bool
end_right table h e = names_pointer table h e.pointer && names_index table h e.integer && is_constant e.constant

unfoldable pub end_zero : EndWords → Bool
end_zero e = is_zero e.pointer && is_zero e.integer && is_zero e.constant

unfoldable pub end_of : EndWords → End
end_of e = record { pointer = plain e.pointer; integer = index_of e.integer; constant = e.constant }

-- "An integer has zeros after its kind."
unfoldable pub integer_record : VariableWords → Bool
integer_record w = is_zero w.kind && is_zero w.size && end_zero w.lower && end_zero w.upper

-- Point 10: "its element size s, 0 or 1 for one cell, at most 8 (else refusal 4)".
unfoldable pub is_size : ℕ → Bool
is_size w = leb bias w && leb w (bias + 8)

unfoldable pub size_of : ℕ → ℕ
size_of w = cond (eqb w bias) 1 (plain w)

unfoldable pub pointer_record : List ℤ → Sections → VariableWords → Bool
pointer_record table h w = kind_is false true true (kind_of w.kind) && is_size w.size && end_right table h w.lower && end_right table h w.upper

unfoldable pub variable_of : List ℤ → Sections → VariableWords → Option Variable
variable_of table h w =
    cond (integer_record w) (Some Integer) (cond (pointer_record table h w) (Some (Pointer (size_of w.size) (end_of w.lower) (end_of w.upper))) None)

-- The variable of a number; a number that no variable has does not read.
unfoldable pub variable_at : List ℤ → Sections → ℕ → Option Variable
variable_at table h v = cond (is_variable h v) (variable_of table h (variable_words_at table (variable_start h v))) None

-- Point 2: "bounds rows of six words, two ends each". Its ends are tested as a variable's are.
unfoldable pub row_words_at : List ℤ → ℕ → RowWords
row_words_at table i = record { lower = end_words_at table i; upper = end_words_at table (i + 3) }

unfoldable pub row_of : List ℤ → Sections → RowWords → Option BoundsRow
row_of table h w = cond (end_right table h w.lower && end_right table h w.upper) (Some (record { lower = end_of w.lower; upper = end_of w.upper })) None

-- The row of a number; a number that no row has does not read.
unfoldable pub row_at : List ℤ → Sections → ℕ → Option BoundsRow
row_at table h r = cond (in_limits h && ltb r h.rows) (row_of table h (row_words_at table (row_start h r))) None

-- "Objects: one word each, its length in cells"; point 7: "An object word below 0 marks a terminated object of that many cells, sign removed".
unfoldable pub object_cells : ℕ → ℕ
object_cells w = cond (ltb w bias) (bias - w) (plain w)

-- 0 for a number that no object has.
unfoldable pub object_at : List ℤ → Sections → ℕ → ℕ
object_at table h o = cond (in_limits h && ltb o h.objects) (object_cells (word table (object_start h o))) 0
