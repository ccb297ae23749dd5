-- Cause 17 by form (document 02, point 9): "when one is cut short, unsorted, or names no while, no variable (-1 twice too), two of different kinds or a k
-- beyond 65,536 either way (found after 6, before the walk)".
use Rattle.statements.specs.declared.Statement.{Statement}
use Rattle.std.specs.Prelude.{ℕ, ◌+◌, ◌-◌, ◌*◌, Bool, true, false, ◌&&◌, ◌||◌, cond, List, [], ◌∷◌, ℤ, length, leb, ltb, eqb}
use Rattle.std.specs.Prelude.{Err, None, Ok, Option, Result, Some}
use Rattle.sums.specs.Numbers.{bias}
use Rattle.answers.specs.declared.refusals.Refusal.{Refusal}
use Rattle.answers.specs.declared.refusals.Refusal.TheVariants.{LoopFact}
use Rattle.words.specs.Fields.{plain, is_constant}
use Rattle.words.specs.Sections.{names_integer, names_pointer}
use Rattle.words.specs.declared.sections.Sections.{Sections}
use Rattle.conditions.specs.Conditions.{same_kind}
use Rattle.statements.specs.Statements.{statement_at}
use Rattle.statements.specs.declared.Statement.TheVariants.{Plain, If, While, Bundle, Call}
use Rattle.table.specs.Form.{lowest_from}
use Rattle.listed.specs.Entries.{while_word, left_word, right_word, offset_word, entry_count}

abbrev pub is_while : Option Statement → Bool
is_while (Some (Plain s)) = false
is_while (Some (If c n m)) = false
is_while (Some (While c n)) = true
is_while (Some (Bundle n)) = false
is_while (Some (Call c)) = false
is_while None = false

unfoldable pub names_while : List ℤ → Sections → ℕ → Bool
names_while T h w = is_while (statement_at T h (plain w)) && leb bias w

unfoldable pub names_variable : List ℤ → Sections → ℕ → Bool
names_variable T h w = names_integer T h w || names_pointer T h w

-- Two variables of one kind word, or one and -1, which stands for zero.
unfoldable pub sides_right : List ℤ → Sections → ℕ → ℕ → Bool
sides_right T h x y = same_kind T h x y || eqb x (bias - 1) && names_variable T h y || eqb y (bias - 1) && names_variable T h x

-- Its statement is not below that of the entry before.
unfoldable pub in_order : List ℤ → ℕ → Bool
in_order L e = eqb e 0 || leb (while_word L (e - 1)) (while_word L e)

unfoldable pub entry_right : List ℤ → Sections → List ℤ → ℕ → Bool
entry_right T h L e =
    sides_right T h (left_word L e) (right_word L e) && is_constant (offset_word L e) && names_while T h (while_word L e) && in_order L e && leb (4 * e + 4)
    (length L)

unfoldable pub lowest_entry : List ℤ → Sections → List ℤ → ℕ
lowest_entry T h L = lowest_from (entry_right T h L) 0 (entry_count L)

-- "It refuses with 17, giving the first such entry (256 first, when there are more)". An entry that is cut short counts: 1,025 words are more than 256 entries.
unfoldable pub list_faults : List ℤ → Sections → List ℤ → List Refusal
list_faults T h L =
    cond (ltb 1024 (length L)) (LoopFact 256 ∷ [])
    (cond (ltb (lowest_entry T h L) (entry_count L)) (LoopFact (lowest_entry T h L) ∷ []) [])

-- The first of these faults, as the code answers it.
unfoldable pub list_form : List Refusal → Result (Unit {0}) Refusal
list_form [] = Ok tt
list_form (r ∷ rs) = Err r
