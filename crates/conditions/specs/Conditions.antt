-- The condition of a record: "A condition is left variable, relation, form, right".
use Rattle.std.specs.Prelude.{ℕ, ◌+◌, zero, suc, ◌-◌, ◌%◌, Bool, ◌&&◌, ◌||◌, cond, not, List, ℤ, eqb, leb, ltb}
use Rattle.sums.specs.Numbers.{bias, zero_var}
use Rattle.words.specs.declared.Fields.{Fields}
use Rattle.words.specs.Fields.{plain, literal_value, is_zero, is_below}
use Rattle.words.specs.Sections.{names_integer, names_pointer, names_array, names_string}
use Rattle.words.specs.declared.sections.Sections.{Sections}
use Rattle.conditions.specs.declared.Condition.{Condition}

module _ (table : List ℤ) (h : Sections) where
  -- "form 0 a variable of the same kind": of the same kind word.
  unfoldable pub same_kind : ℕ → ℕ → Bool
  same_kind v w =
      names_integer table h v && names_integer table h w || names_array table h v && names_array table h w || names_string table h v && names_string table h w

  -- "form 1 a literal as in kind 1 (only 0 beside a pointer)": beside an integer any word is one.
  unfoldable pub beside_literal : ℕ → ℕ → Bool
  beside_literal v w = names_integer table h v || names_pointer table h v && is_zero w

  -- "Relations: 0 <, 1 >=, 2 >, 3 <=, 4 ==, 5 !="; "A condition is left variable, relation, form, right": the first four fields.
  unfoldable pub condition_right : Fields → Bool
  condition_right f =
      is_below 6 f.second && (is_zero f.third && same_kind f.first f.fourth || eqb f.third (bias + 1) && beside_literal f.first f.fourth)

-- The right side of a condition is a variable and an offset: the variable and 0, or zero and the literal.
unfoldable pub right_of : ℕ → ℕ → ℕ
right_of form w = cond (is_zero form) (plain w) zero_var

unfoldable pub offset_of : ℕ → ℕ → ℕ
offset_of form w = cond (is_zero form) 0 (literal_value w)

unfoldable pub condition_of : Fields → Condition
condition_of f =
    record { left = plain f.first; relation = plain f.second; right = right_of f.third f.fourth; offset = offset_of f.third f.fourth }

-- ---- relations
-- "Relations: 0 <, 1 >=, 2 >, 3 <=, 4 ==, 5 !=", of two values. "Conditions compare values, pointers by address."
unfoldable pub relates : ℕ → ℕ → ℕ → Bool
relates zero a b = ltb a b
relates (suc zero) a b = leb b a
relates (suc (suc zero)) a b = ltb b a
relates (suc (suc (suc zero))) a b = leb a b
relates (suc (suc (suc (suc zero)))) a b = eqb a b
relates (suc (suc (suc (suc (suc n))))) a b = not (eqb a b)

-- ---- the negation of a condition (document 02, point 3)

-- Point 3: "an even relation goes up by one, an odd one down."
unfoldable pub negation : ℕ → ℕ
negation relation = cond (eqb (relation % 2) 0) (relation + 1) (relation - 1)

unfoldable pub negated_of : Condition → Condition
negated_of c = record { left = c.left; relation = negation c.relation; right = c.right; offset = c.offset }
