-- Two tables that declare the same: the same kinds of variables, the same terminated objects, as many objects, variables and rows. What a record reads as
-- depends on no more than that and its own words.
use Rattle.std.specs.Prelude.{ℕ, ◌+◌, ◌≡◌, refl, Bool, ◌&&◌, ◌||◌, cond, not, true, false, List, ℤ, leb, ltb, eqb}
use Rattle.std.proofs.Common.{ap, ap₂}
use Rattle.sums.specs.Numbers.{bias}
use Rattle.words.specs.Words.{word}
use Rattle.words.specs.Fields.{plain, is_below}
use Rattle.words.specs.Sections.{kind_at, kind_is, integer_at, pointer_at, array_at, string_at, object_terminated, takes_pointer, takes_object}
use Rattle.words.specs.Sections.{names_integer, names_pointer, names_array, names_string, names_index}
use Rattle.words.specs.declared.Fields.{Fields}
use Rattle.words.specs.declared.sections.Sections.{Sections}
use Rattle.conditions.specs.Conditions.{same_kind, beside_literal, condition_right}
use Rattle.statements.specs.Statements.{literal_read, add_constant_read, arithmetic_read, null_read, address_read, pointer_offset_read, pointer_index_read}
use Rattle.statements.specs.Statements.{load_read, store_read, check_read, declare_read, if_read, while_read, bundle_read, is_argument, call_read, kind_read}
use Rattle.table.specs.Variables.{end_words_at, variable_words_at, row_words_at, end_right, pointer_record, variable_of, row_of}

pub record SameDeclared (T : List ℤ) (h : Sections) (U : List ℤ) (g : Sections) : Type 0 where
  pub kinds : (v : ℕ) → kind_at U g v ≡ kind_at T h v
  pub terminated : (o : ℕ) → object_terminated U g o ≡ object_terminated T h o
  pub objects : g.objects ≡ h.objects
  pub variables : g.variables ≡ h.variables
  pub rows : g.rows ≡ h.rows

module _ {T : List ℤ} {h : Sections} {U : List ℤ} {g : Sections} (same : SameDeclared T h U g) where
  integer-same : (v : ℕ) → integer_at U g v ≡ integer_at T h v
  unfolding integer_at
  integer-same v = rw (same.kinds v)

  pub pointer-same : (v : ℕ) → pointer_at U g v ≡ pointer_at T h v
  unfolding pointer_at
  pointer-same v = rw (same.kinds v)

  array_same : (v : ℕ) → array_at U g v ≡ array_at T h v
  unfolding array_at
  array_same v = rw (same.kinds v)

  pub string-same : (v : ℕ) → string_at U g v ≡ string_at T h v
  unfolding string_at
  string-same v = rw (same.kinds v)

  takes-pointer : (v w : ℕ) → takes_pointer U g v w ≡ takes_pointer T h v w
  unfolding takes_pointer
  takes-pointer v w = rw (string-same (plain v), string-same (plain w))

  takes-object : (v w : ℕ) → takes_object U g v w ≡ takes_object T h v w
  unfolding takes_object
  takes-object v w = rw (string-same (plain v), same.terminated (plain w))

  names-integer : (w : ℕ) → names_integer U g w ≡ names_integer T h w
  unfolding names_integer
  names-integer w = rw (integer-same (plain w))

  names-pointer : (w : ℕ) → names_pointer U g w ≡ names_pointer T h w
  unfolding names_pointer
  names-pointer w = rw (pointer-same (plain w))

  names-array : (w : ℕ) → names_array U g w ≡ names_array T h w
  unfolding names_array
  names-array w = rw (array_same (plain w))

  names-string : (w : ℕ) → names_string U g w ≡ names_string T h w
  unfolding names_string
  names-string w = rw (string-same (plain w))

  names-index : (w : ℕ) → names_index U g w ≡ names_index T h w
  unfolding names_index
  names-index w = rw (names-integer w)

  same-kind : (v w : ℕ) → same_kind U g v w ≡ same_kind T h v w
  unfolding same_kind
  same-kind v w = rw (names-integer v, names-integer w, names-array v, names-array w, names-string v, names-string w)

  beside-literal : (v w : ℕ) → beside_literal U g v w ≡ beside_literal T h v w
  unfolding beside_literal
  beside-literal v w = rw (names-integer v, names-pointer v)

  condition-right : (f : Fields) → condition_right U g f ≡ condition_right T h f
  unfolding condition_right
  condition-right f = rw (same-kind f.first f.fourth, beside-literal f.first f.fourth)

  -- ---- statements

  literal-read : (f : Fields) → literal_read U g f ≡ literal_read T h f
  unfolding literal_read
  literal-read f = rw (names-integer f.first)

  add-constant-read : (f : Fields) → add_constant_read U g f ≡ add_constant_read T h f
  unfolding add_constant_read
  add-constant-read f = rw (names-integer f.first, names-integer f.second)

  arithmetic-read : (f : Fields) → arithmetic_read U g f ≡ arithmetic_read T h f
  unfolding arithmetic_read
  arithmetic-read f = rw (names-integer f.first, names-integer f.second, names-integer f.third)

  null-read : (f : Fields) → null_read U g f ≡ null_read T h f
  unfolding null_read
  null-read f = rw (names-pointer f.first)

  address-read : (f : Fields) → address_read U g f ≡ address_read T h f
  unfolding address_read
  address-read f = rw (names-pointer f.first, takes-object f.first f.second, same.objects)

  pointer-offset-read : (f : Fields) → pointer_offset_read U g f ≡ pointer_offset_read T h f
  unfolding pointer_offset_read
  pointer-offset-read f = rw (names-pointer f.first, names-pointer f.second, takes-pointer f.first f.second)

  pointer-index-read : (f : Fields) → pointer_index_read U g f ≡ pointer_index_read T h f
  unfolding pointer_index_read
  pointer-index-read f = rw (names-pointer f.first, names-pointer f.second, names-integer f.third, takes-pointer f.first f.second)

  load-read : (f : Fields) → load_read U g f ≡ load_read T h f
  unfolding load_read
  load-read f = rw (names-integer f.first, names-pointer f.second, names-index f.third)

  store-read : (f : Fields) → store_read U g f ≡ store_read T h f
  unfolding store_read
  store-read f = rw (names-pointer f.first, names-index f.second, names-integer f.fourth)

  check-read : (f : Fields) → check_read U g f ≡ check_read T h f
  unfolding check_read
  check-read f = rw (condition-right f)

  declare-read : (f : Fields) → declare_read U g f ≡ declare_read T h f
  unfolding declare_read
  declare-read f = rw (names-pointer f.first, same.rows)

  if-read : (f : Fields) → if_read U g f ≡ if_read T h f
  unfolding if_read
  if-read f = rw (condition-right f)

  while-read : (f : Fields) → while_read U g f ≡ while_read T h f
  unfolding while_read
  while-read f = rw (condition-right f)

  is-argument : (w : ℕ) → is_argument g w ≡ is_argument h w
  unfolding is_argument
  is-argument w = rw same.variables

  call-read : (f : Fields) → call_read U g f ≡ call_read T h f
  unfolding call_read
  call-read f =
      rw (names-index f.second, is-argument f.third, is-argument f.fourth, is-argument f.fifth, is-argument f.sixth)

  pub kind-read : (f : Fields) → kind_read U g f ≡ kind_read T h f
  unfolding kind_read
  kind-read f =
      rw (
        literal-read f,
        add-constant-read f,
        arithmetic-read f,
        null-read f,
        address-read f,
        pointer-offset-read f,
        pointer-index-read f,
        load-read f,
        store-read f,
        check-read f,
        if-read f,
        while-read f,
        declare-read f,
        call-read f,
      )

  -- ---- variables and rows

  end-right : (W : List ℤ) (i : ℕ) → end_right U g (end_words_at W i) ≡ end_right T h (end_words_at W i)
  unfolding end_right end_words_at
  end-right W i = rw (names-pointer (word W i), names-index (word W (i + 1)))

  pointer-record : (W : List ℤ) (i : ℕ) → pointer_record U g (variable_words_at W i) ≡ pointer_record T h (variable_words_at W i)
  unfolding pointer_record variable_words_at
  pointer-record W i = rw (end-right W (i + 2), end-right W (i + 5))

  pub variable-of : (W : List ℤ) (i : ℕ) → variable_of U g (variable_words_at W i) ≡ variable_of T h (variable_words_at W i)
  unfolding variable_of
  variable-of W i = rw (pointer-record W i)

  pub row-of : (W : List ℤ) (i : ℕ) → row_of U g (row_words_at W i) ≡ row_of T h (row_words_at W i)
  unfolding row_of row_words_at
  row-of W i = rw (end-right W i, end-right W (i + 3))
