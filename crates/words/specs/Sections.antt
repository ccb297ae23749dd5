-- The sections of a table, and what a word of a record names (document 01, "The routine table").
use Rattle.words.specs.declared.sections.Kind.{Kind}
use Rattle.std.specs.Prelude.{ℕ, ◌+◌, ◌-◌, ◌*◌, ◌≤◌, Bool, true, false, not, ◌&&◌, ◌||◌, cond, List, ℤ, leb, ltb, eqb, None, Option, Some}
use Rattle.sums.specs.Numbers.{bias}
use Rattle.words.specs.Words.{word}
use Rattle.words.specs.Fields.{plain}
use Rattle.words.specs.declared.sections.Sections.{Sections}
use Rattle.words.specs.declared.sections.Kind.TheVariants.{Integer, Array, String}

-- "The first offset is 6"; point 2: "A first offset of 8 means a fourth pair and section, after the statements: at most 64 bounds rows".
unfoldable pub start_right : Sections → Bool
start_right h = eqb h.start 6 && eqb h.rows 0 || eqb h.start 8 && leb h.rows 64

-- "At most 16" objects, "1 to 16" variables, "at most 1,024" statements.
unfoldable pub in_limits : Sections → Bool
in_limits h = leb h.objects 16 && leb 1 h.variables && leb h.variables 16 && leb h.statements 1024 && start_right h

-- What follows from it, as facts about the numbers.
pub record Limits (h : Sections) : Type 0 where
  pub objects : h.objects ≤ 16
  pub some : 1 ≤ h.variables
  pub variables : h.variables ≤ 16
  pub statements : h.statements ≤ 1024
  pub start : h.start ≤ 8
  pub rows : h.rows ≤ 64

-- "Objects: one word each", "Variables: 8 words each", "Statements: 7 words each", "bounds rows of six words", the sections one after the other:
-- where each section starts, and where the last one ends.
abbrev pub objects_start : Sections → ℕ
objects_start h = h.start

abbrev pub variables_start : Sections → ℕ
variables_start h = objects_start h + h.objects

abbrev pub statements_start : Sections → ℕ
statements_start h = variables_start h + 8 * h.variables

abbrev pub rows_start : Sections → ℕ
rows_start h = statements_start h + 7 * h.statements

abbrev pub table_end : Sections → ℕ
table_end h = rows_start h + 6 * h.rows

-- Where a record starts.
abbrev pub object_start : Sections → ℕ → ℕ
object_start h o = objects_start h + o

abbrev pub variable_start : Sections → ℕ → ℕ
variable_start h v = variables_start h + 8 * v

abbrev pub statement_start : Sections → ℕ → ℕ
statement_start h a = statements_start h + 7 * a

abbrev pub row_start : Sections → ℕ → ℕ
row_start h r = rows_start h + 6 * r

-- Whether there is a variable of this number.
unfoldable pub is_variable : Sections → ℕ → Bool
is_variable h v = in_limits h && ltb v h.variables

-- "Kind (0 integer, 1 array_ptr)"; point 7: "`nt_array_ptr`, variable kind 2". Another word is no kind.
unfoldable pub kind_of : ℕ → Option Kind
kind_of w = cond (eqb w bias) (Some Integer) (cond (eqb w (bias + 1)) (Some Array) (cond (eqb w (bias + 2)) (Some String) None))

-- The kind word alone decides; a number that no variable has has no kind.
unfoldable pub kind_at : List ℤ → Sections → ℕ → Option Kind
kind_at table h v = cond (is_variable h v) (kind_of (word table (variable_start h v))) None

-- A test of the kind, by its three answers.
unfoldable pub kind_is : Bool → Bool → Bool → Option Kind → Bool
kind_is integer array string (Some Integer) = integer
kind_is integer array string (Some Array) = array
kind_is integer array string (Some String) = string
kind_is integer array string None = false

unfoldable pub integer_at : List ℤ → Sections → ℕ → Bool
integer_at table h v = kind_is true false false (kind_at table h v)

-- A pointer of either kind.
unfoldable pub pointer_at : List ℤ → Sections → ℕ → Bool
pointer_at table h v = kind_is false true true (kind_at table h v)

unfoldable pub array_at : List ℤ → Sections → ℕ → Bool
array_at table h v = kind_is false true false (kind_at table h v)

unfoldable pub string_at : List ℤ → Sections → ℕ → Bool
string_at table h v = kind_is false false true (kind_at table h v)

-- Point 7: "An object word below 0 marks a terminated object".
unfoldable pub object_terminated : List ℤ → Sections → ℕ → Bool
object_terminated table h o = (in_limits h && ltb o h.objects) && ltb (word table (object_start h o)) bias

-- "Kinds 6 and 7 may take a kind 2 pointer to an array_ptr. The other way, and the address of a plain object, are refusal 5."
unfoldable pub takes_pointer : List ℤ → Sections → ℕ → ℕ → Bool
takes_pointer table h v w = not (string_at table h (plain v)) || string_at table h (plain w)

unfoldable pub takes_object : List ℤ → Sections → ℕ → ℕ → Bool
takes_object table h v w = not (string_at table h (plain v)) || object_terminated table h (plain w)

-- What a field names.
unfoldable pub names_integer : List ℤ → Sections → ℕ → Bool
names_integer table h w = leb bias w && integer_at table h (plain w)

unfoldable pub names_pointer : List ℤ → Sections → ℕ → Bool
names_pointer table h w = leb bias w && pointer_at table h (plain w)

unfoldable pub names_array : List ℤ → Sections → ℕ → Bool
names_array table h w = leb bias w && array_at table h (plain w)

unfoldable pub names_string : List ℤ → Sections → ℕ → Bool
names_string table h w = leb bias w && string_at table h (plain w)

-- "i may be -1"; "an integer variable or -1"
unfoldable pub names_index : List ℤ → Sections → ℕ → Bool
names_index table h w = eqb w (bias - 1) || names_integer table h w
