-- What the tests of a condition say.
use Rattle.std.specs.Prelude.{ℕ, ◌+◌, ◌^◌, ◌<◌, ◌≡◌, Bool, ◌&&◌, ◌||◌, cond, List, ℤ}
use Rattle.std.proofs.Math.Path.{refl}
use Rattle.std.proofs.Math.Bool.{true, false}
use Rattle.std.proofs.Math.Logic.{⊎_elim}
use Rattle.std.proofs.Math.Dec.{eqb}
use borrow.Author.Tests.{eqb-true}
use Rattle.std.proofs.Common.{arith}
use Rattle.sums.specs.Numbers.{bias, zero_var}
use Rattle.words.specs.declared.Fields.{Fields}
use Rattle.words.specs.Fields.{plain, literal_value, is_zero, is_below}
use Rattle.words.specs.Sections.{names_integer, names_pointer, names_array, names_string}
use Rattle.words.specs.SectionsLaws.{both}
use Rattle.words.specs.NameLaws.{either, below_holds, literal-small, integer-named, pointer-named, array-named, string-named}
use Rattle.words.specs.declared.sections.Sections.{Sections}
use Rattle.conditions.specs.Conditions.{same_kind, beside_literal, condition_right, condition_of, right_of, offset_of}
use Rattle.conditions.specs.declared.Condition.{Condition}
use Rattle.conditions.specs.Typed.{Sides, integers, pointers, literal, null, ConditionTyped}

module _ (table : List ℤ) (h : Sections) where
  same-sides : (v w : ℕ) → same_kind table h v w ≡ true → Sides table h (plain v) (plain w) 0
  unfolding same_kind
  same-sides v w e =
      ⊎_elim
      (λ (j : (names_integer table h v && names_integer table h w || names_array table h v && names_array table h w) ≡ true).
      ⊎_elim
      (λ (i : (names_integer table h v && names_integer table h w) ≡ true).
      let p = both (names_integer table h v) (names_integer table h w) i in integers (integer-named table h v p.0) (integer-named table h w p.1) refl)
      (λ (i : (names_array table h v && names_array table h w) ≡ true).
      let p = both (names_array table h v) (names_array table h w) i in pointers (array-named table h v p.0) (array-named table h w p.1) refl)
      (either (names_integer table h v && names_integer table h w) (names_array table h v && names_array table h w) j))
      (λ (i : (names_string table h v && names_string table h w) ≡ true).
      let p = both (names_string table h v) (names_string table h w) i in pointers (string-named table h v p.0) (string-named table h w p.1) refl)
      (either (names_integer table h v && names_integer table h w || names_array table h v && names_array table h w)
      (names_string table h v && names_string table h w) e)

  literal-sides : (v w : ℕ) → beside_literal table h v w ≡ true → Sides table h (plain v) zero_var (literal_value w)
  unfolding beside_literal literal_value
  literal-sides v w e =
      ⊎_elim
      (λ (i : names_integer table h v ≡ true). literal (integer-named table h v i) refl (literal-small w))
      (λ (i : (names_pointer table h v && is_zero w) ≡ true).
      let p = both (names_pointer table h v) (is_zero w) i in
      let z : w ≡ bias = eqb-true w bias p.1 in null (pointer-named table h v p.0) refl (omega arith))
      (either (names_integer table h v) (names_pointer table h v && is_zero w) e)

  pub condition-typed : (f : Fields) → condition_right table h f ≡ true → ConditionTyped table h (condition_of f)
  unfolding condition_right condition_of right_of offset_of
  condition-typed f e =
      let p = both (is_below 6 f.second)
      (is_zero f.third && same_kind table h f.first f.fourth || eqb f.third (bias + 1) && beside_literal table h f.first f.fourth) e in
      record { relation = below_holds 6 f.second p.0; sides = go (eqb f.third bias) refl p.1 }
    where
      go : (b : Bool) → eqb f.third bias ≡ b →
          (b && same_kind table h f.first f.fourth || eqb f.third (bias + 1) && beside_literal table h f.first f.fourth) ≡ true →
          Sides table h (plain f.first) (cond b (plain f.fourth) zero_var) (cond b 0 (literal_value f.fourth))
      go true q g =
          ⊎_elim (λ (s : same_kind table h f.first f.fourth ≡ true). same-sides f.first f.fourth s)
          (λ (s : (eqb f.third (bias + 1) && beside_literal table h f.first f.fourth) ≡ true).
          let i : f.third ≡ bias = eqb-true f.third bias q in
          let j : f.third ≡ bias + 1 = eqb-true f.third (bias + 1) (both (eqb f.third (bias + 1)) (beside_literal table h f.first f.fourth) s).0 in
          absurd (omega arith))
          (either (same_kind table h f.first f.fourth) (eqb f.third (bias + 1) && beside_literal table h f.first f.fourth) g)
      go false q g = literal-sides f.first f.fourth (both (eqb f.third (bias + 1)) (beside_literal table h f.first f.fourth) g).1

-- A literal beside a condition's left side is below 2^32, and so is the offset of every condition.
sides-small : {T : List ℤ} {h : Sections} (l r k : ℕ) → Sides T h l r k → k < 2 ^ 32
sides-small l r k (integers a b e) = omega arith
sides-small l r k (pointers a b e) = omega arith
sides-small l r k (literal a b e) = omega arith
sides-small l r k (null a b e) = omega arith

pub offset-small : {T : List ℤ} {h : Sections} {c : Condition} → ConditionTyped T h c → c.offset < 2 ^ 32
offset-small t = sides-small _ _ _ t.sides
