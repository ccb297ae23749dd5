-- What a statement record is decoded as with no test of its fields: the reader of a run, whose table has been checked.
use Rattle.std.specs.Prelude.{ℕ, ◌+◌, ◌-◌, ◌*◌, ◌%◌, ◌^◌, cond, List, ℤ, eqb}
use Rattle.sums.specs.Numbers.{bias, zero_var}
use Rattle.words.specs.Words.{fields_at}
use Rattle.words.specs.declared.Fields.{Fields}
use Rattle.words.specs.Fields.{plain, literal_value, is_zero}
use Rattle.words.specs.Sections.{statement_start}
use Rattle.words.specs.declared.sections.Sections.{Sections}
use Rattle.conditions.specs.declared.Condition.{Condition}
use Rattle.statements.specs.declared.Simple.TheVariants.{Literal, AddConstant, Arithmetic, Null, Address}
use Rattle.statements.specs.declared.Simple.TheVariants.{PointerOffset, PointerIndex, Load, Store, Check, Declare}
use Rattle.statements.specs.declared.CallSite.{CallSite}
use Rattle.statements.specs.declared.Statement.{Statement}
use Rattle.statements.specs.declared.Statement.TheVariants.{Plain, If, While, Bundle, Call}

-- The 32 bits of a word as an unsigned number: a word that is 0 or more as it is.
abbrev pub unsigned : ℕ → ℕ
unsigned w = w % 2 ^ 32

-- The number of an index variable; a missing one has the number that stands for zero.
unfoldable pub decoded_index : ℕ → ℕ
decoded_index w = cond (eqb w (bias - 1)) zero_var (unsigned w)

-- The right side of a condition: a variable and 0, or zero and the literal.
unfoldable pub decoded_right : ℕ → ℕ → ℕ
decoded_right form w = cond (is_zero form) (unsigned w) zero_var

unfoldable pub decoded_offset : ℕ → ℕ → ℕ
decoded_offset form w = cond (is_zero form) 0 (literal_value w)

unfoldable pub decoded_condition : Fields → Condition
decoded_condition f =
    record {
      left = unsigned f.first;
      relation = unsigned f.second;
      right = decoded_right f.third f.fourth;
      offset = decoded_offset f.third f.fourth;
    }

unfoldable pub decoded_call : Fields → CallSite
decoded_call f =
    record {
      callee = literal_value f.first;
      result = decoded_index f.second;
      first = decoded_index f.third;
      second = decoded_index f.fourth;
      third = decoded_index f.fifth;
      fourth = decoded_index f.sixth;
    }

-- The kinds by their number, fields in the order that the paper names. A kind that is none of 1 to 14 is taken for 15. Counts, which
-- a run does not look at, are as they are read.
unfoldable pub decoded_as : ℕ → Fields → Statement
decoded_as kind f =
    cond (eqb kind 1) (Plain (Literal (unsigned f.first) (literal_value f.second)))
    (cond (eqb kind 2) (Plain (AddConstant (unsigned f.first) (unsigned f.second) f.third))
    (cond (eqb kind 3) (Plain (Arithmetic (unsigned f.first) (unsigned f.second) (unsigned f.third) (unsigned f.fourth)))
    (cond (eqb kind 4) (Plain (Null (unsigned f.first)))
    (cond (eqb kind 5) (Plain (Address (unsigned f.first) (unsigned f.second)))
    (cond (eqb kind 6) (Plain (PointerOffset (unsigned f.first) (unsigned f.second) f.third))
    (cond (eqb kind 7) (Plain (PointerIndex (unsigned f.first) (unsigned f.second) (unsigned f.third)))
    (cond (eqb kind 8) (Plain (Load (unsigned f.first) (unsigned f.second) (decoded_index f.third) f.fourth))
    (cond (eqb kind 9) (Plain (Store (unsigned f.first) (decoded_index f.second) f.third (unsigned f.fourth)))
    (cond (eqb kind 10) (Plain (Check (decoded_condition f)))
    (cond (eqb kind 11) (If (decoded_condition f) (plain f.fifth) (plain f.sixth))
    (cond (eqb kind 12) (While (decoded_condition f) (plain f.fifth))
    (cond (eqb kind 13) (Bundle (plain f.first))
    (cond (eqb kind 14) (Plain (Declare (unsigned f.first) (unsigned f.second)))
    (Call (decoded_call f)))))))))))))))

abbrev pub decoded : Fields → Statement
decoded f = decoded_as (unsigned f.kind) f

-- The statement of a number, for a record that is known to read.
unfoldable pub decoded_at : List ℤ → Sections → ℕ → Statement
decoded_at table h a = decoded (fields_at table (statement_start h a))

-- The call of a number, for a statement that is one.
unfoldable pub decoded_call_at : List ℤ → Sections → ℕ → CallSite
decoded_call_at table h a = decoded_call (fields_at table (statement_start h a))
