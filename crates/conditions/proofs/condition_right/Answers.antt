-- `conditions::condition_right` meets its contract, form by form.
use Prim.Native.Nat.{ℕ, ◌+◌}
use mathlib.Core.Path.{◌≡◌, refl, sym, ◌∙◌}
use mathlib.Core.Bool.{Bool, true, false, ◌&&◌, ◌||◌}
use native.Mathlib.Omega.{arith}
use borrow.Author.Tests.{ne_eqb, eqb-true}
use mathlib.Core.List.{List}
use lib.IntN.{ℤ}
use lib.Dec.{eqb}
use Rattle.sums.specs.Numbers.{bias}
use Rattle.words.specs.Fields.{is_zero, is_below}
use Rattle.words.specs.declared.Fields.{Fields}
use Rattle.words.specs.declared.sections.Sections.{Sections}
use Rattle.conditions.specs.Conditions.{same_kind, beside_literal, condition_right}
use Rattle.conditions.proofs.condition_right.Goals as goal

or-false : (a s l : Bool) → (a && s) ≡ (a && (s || false && l))
or-false false s l = refl
or-false true false l = refl
or-false true true l = refl

form-zero : (t : ℕ) (a s l : Bool) → is_zero t ≡ true → (a && s) ≡ (a && (is_zero t && s || eqb t (bias + 1) && l))
form-zero t a s l z =
    let other : eqb t (bias + 1) ≡ false = ne_eqb t (bias + 1) (λ e. omega (arith, eqb-true t bias z)) in
    rw (z, other) (or-false a s l)

form-one : (t : ℕ) (a s l : Bool) → is_zero t ≡ false → (a && (eqb t (bias + 1) && l)) ≡ (a && (is_zero t && s || eqb t (bias + 1) && l))
form-one t a s l z = rw z refl

-- The answer of each form.
module _ (table : List ℤ) (h : Sections) (f : Fields) {zero below : Bool} (z : zero ≡ is_zero f.third) (b : below ≡ is_below 6 f.second) where
  right_zero : {kind : Bool} → zero ≡ true → kind ≡ same_kind table h f.first f.fourth → (below && kind) ≡ condition_right table h f
  unfolding condition_right
  right_zero t e =
      rw (b, e) (form-zero f.third (is_below 6 f.second) (same_kind table h f.first f.fourth) (beside_literal table h f.first f.fourth)
      (sym z ∙ t))

  right-one : {beside : Bool} → zero ≡ false → beside ≡ beside_literal table h f.first f.fourth
      → (below && (eqb f.third (bias + 1) && beside)) ≡ condition_right table h f
  unfolding condition_right
  right-one t e =
      rw (b, e) (form-one f.third (is_below 6 f.second) (same_kind table h f.first f.fourth) (beside_literal table h f.first f.fourth)
      (sym z ∙ t))

pub returns-then-is_zero : goal.returns-then-is_zero
returns-then-is_zero c = right_zero _ _ _ c.is_zero.ensures c.is_below.ensures c.if-is_zero.true c.same_kind.ensures

pub returns : goal.returns
returns c = right-one _ _ _ c.is_zero.ensures c.is_below-2.ensures c.if-is_zero.false
    c.beside_literal.ensures
