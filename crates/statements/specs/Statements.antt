-- What a statement record reads as: "7 words each: kind and six fields, unused fields 0".
use Rattle.std.specs.Prelude.{ℕ, ◌-◌, ◌^◌, Bool, ◌&&◌, ◌||◌, cond, List, ℤ, ltb, eqb, None, Option, Some}
use Rattle.words.specs.Words.{fields_at}
use Rattle.words.specs.declared.Fields.{Fields}
use Rattle.sums.specs.Numbers.{bias}
use Rattle.words.specs.Fields.{plain, index_of, literal_value, is_zero, is_below, is_count, is_constant}
use Rattle.words.specs.Sections.{in_limits, statement_start, names_integer, names_pointer, names_index, takes_pointer, takes_object}
use Rattle.words.specs.declared.sections.Sections.{Sections}
use Rattle.conditions.specs.Conditions.{condition_right, condition_of}
use Rattle.statements.specs.declared.Simple.TheVariants.{Literal, AddConstant, Arithmetic, Null, Address}
use Rattle.statements.specs.declared.Simple.TheVariants.{PointerOffset, PointerIndex, Load, Store, Check, Declare}
use Rattle.statements.specs.declared.CallSite.{CallSite}
use Rattle.statements.specs.declared.Statement.{Statement}
use Rattle.statements.specs.declared.Statement.TheVariants.{Plain, If, While, Bundle, Call}

-- A record reads as the statement where its test holds.
abbrev pub read_if : Bool → Statement → Option Statement
read_if right s = cond right (Some s) None

-- "unused fields 0": each field from number n on. Every kind uses the first.
unfoldable pub unused_from : ℕ → Fields → Bool
unused_from n f =
    (ltb 2 n || is_zero f.second) && (ltb 3 n || is_zero f.third) && (ltb 4 n || is_zero f.fourth) && (ltb 5 n || is_zero f.fifth)
    && (ltb 6 n || is_zero f.sixth)

module _ (table : List ℤ) (h : Sections) where
  -- "1. x := literal": any word is one.
  unfoldable pub literal_read : Fields → Option Statement
  literal_read f =
      read_if (names_integer table h f.first && unused_from 3 f) (Plain (Literal (plain f.first) (literal_value f.second)))

  -- "2. x := y + k"
  unfoldable pub add_constant_read : Fields → Option Statement
  add_constant_read f =
      read_if (names_integer table h f.first && names_integer table h f.second && is_constant f.third && unused_from 4 f)
      (Plain (AddConstant (plain f.first) (plain f.second) f.third))

  -- "3. x := y op z; fields x, y, z, op (0 add, 1 subtract, 2 multiply)"
  unfoldable pub arithmetic_read : Fields → Option Statement
  arithmetic_read f =
      read_if
      (names_integer table h f.first && names_integer table h f.second && names_integer table h f.third && is_below 3 f.fourth && unused_from 5 f)
      (Plain (Arithmetic (plain f.first) (plain f.second) (plain f.third) (plain f.fourth)))

  -- "4. p := null"
  unfoldable pub null_read : Fields → Option Statement
  null_read f = read_if (names_pointer table h f.first && unused_from 2 f) (Plain (Null (plain f.first)))

  -- "5. p := address of object o"; point 7: of a kind 2 pointer "the address of a plain object" is refusal 5.
  unfoldable pub address_read : Fields → Option Statement
  address_read f =
      read_if (names_pointer table h f.first && is_below h.objects f.second && takes_object table h f.first f.second && unused_from 3 f)
      (Plain (Address (plain f.first) (plain f.second)))

  -- "6. p := q + k"; point 7: "Kinds 6 and 7 may take a kind 2 pointer to an array_ptr. The other way .." is refusal 5.
  unfoldable pub pointer_offset_read : Fields → Option Statement
  pointer_offset_read f =
      read_if (names_pointer table h f.first && names_pointer table h f.second && is_constant f.third
      && takes_pointer table h f.first f.second && unused_from 4 f)
      (Plain (PointerOffset (plain f.first) (plain f.second) f.third))

  -- "7. p := q + i": i is a variable, never -1.
  unfoldable pub pointer_index_read : Fields → Option Statement
  pointer_index_read f =
      read_if (names_pointer table h f.first && names_pointer table h f.second && names_integer table h f.third
      && takes_pointer table h f.first f.second && unused_from 4 f)
      (Plain (PointerIndex (plain f.first) (plain f.second) (plain f.third)))

  -- "8. x := p[i + k]": fields x, p, i, k; "here and in kind 9 i may be -1, then it counts as 0"
  unfoldable pub load_read : Fields → Option Statement
  load_read f =
      read_if (names_integer table h f.first && names_pointer table h f.second && names_index table h f.third && is_constant f.fourth && unused_from 5 f)
      (Plain (Load (plain f.first) (plain f.second) (index_of f.third) f.fourth))

  -- "9. p[i + k] := x; fields p, i, k, x"
  unfoldable pub store_read : Fields → Option Statement
  store_read f =
      read_if (names_pointer table h f.first && names_index table h f.second && is_constant f.third && names_integer table h f.fourth && unused_from 5 f)
      (Plain (Store (plain f.first) (index_of f.second) f.third (plain f.fourth)))

  -- "10. dynamic check of a condition (four fields)"
  unfoldable pub check_read : Fields → Option Statement
  check_read f = read_if (condition_right table h f && unused_from 5 f) (Plain (Check (condition_of f)))

  -- Point 2: "Kind 14 names a pointer and a row"
  unfoldable pub declare_read : Fields → Option Statement
  declare_read f =
      read_if (names_pointer table h f.first && is_below h.rows f.second && unused_from 3 f) (Plain (Declare (plain f.first) (plain f.second)))

  -- "11. if: condition, count of the then block, count of the else block"
  unfoldable pub if_read : Fields → Option Statement
  if_read f = read_if (condition_right table h f && is_count f.fifth && is_count f.sixth) (If (condition_of f) (plain f.fifth) (plain f.sixth))

  -- "12. while: condition, count of the body"
  unfoldable pub while_read : Fields → Option Statement
  while_read f = read_if (condition_right table h f && is_count f.fifth && unused_from 6 f) (While (condition_of f) (plain f.fifth))

-- "13. bundle: count, 1 to 16": the count is judged with the blocks (cause 6), so any count reads, a negative one as 0.
unfoldable pub bundle_read : Fields → Option Statement
bundle_read f = read_if (ltb (plain f.first) (2 ^ 31) && unused_from 2 f) (Bundle (plain f.first))

-- Point 14: "four argument variables, unused ones -1 at the end".
unfoldable pub is_argument : Sections → ℕ → Bool
is_argument h w = eqb w (bias - 1) || is_below h.variables w

-- Point 14: "kind 15 calls one: fields callee, integer result variable or -1, then four argument variables". A callee's number below 0 counts as that
-- plus 4,294,967,296, a number that no routine has.
unfoldable pub call_site : Fields → CallSite
call_site f =
    record {
      callee = literal_value f.first;
      result = index_of f.second;
      first = index_of f.third;
      second = index_of f.fourth;
      third = index_of f.fifth;
      fourth = index_of f.sixth;
    }

unfoldable pub call_read : List ℤ → Sections → Fields → Option Statement
call_read table h f =
    read_if (names_index table h f.second && is_argument h f.third && is_argument h f.fourth && is_argument h f.fifth && is_argument h f.sixth)
    (Call (call_site f))

-- The kinds by their number, 1 to 15.
unfoldable pub kind_read : List ℤ → Sections → Fields → Option Statement
kind_read table h f =
    let kind = plain f.kind in
    cond (eqb kind 1) (literal_read table h f)
    (cond (eqb kind 2) (add_constant_read table h f)
    (cond (eqb kind 3) (arithmetic_read table h f)
    (cond (eqb kind 4) (null_read table h f)
    (cond (eqb kind 5) (address_read table h f)
    (cond (eqb kind 6) (pointer_offset_read table h f)
    (cond (eqb kind 7) (pointer_index_read table h f)
    (cond (eqb kind 8) (load_read table h f)
    (cond (eqb kind 9) (store_read table h f)
    (cond (eqb kind 10) (check_read table h f)
    (cond (eqb kind 11) (if_read table h f)
    (cond (eqb kind 12) (while_read table h f)
    (cond (eqb kind 13) (bundle_read f)
    (cond (eqb kind 14) (declare_read table h f)
    (cond (eqb kind 15) (call_read table h f) None))))))))))))))

-- The statement of a number; a number that no statement has does not read.
unfoldable pub statement_at : List ℤ → Sections → ℕ → Option Statement
statement_at table h a = cond (in_limits h && ltb a h.statements) (kind_read table h (fields_at table (statement_start h a))) None
