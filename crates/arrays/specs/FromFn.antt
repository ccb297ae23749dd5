-- The array that `array::from_fn` makes, where the closure gives f i at i and stays as it was, is `tabulate n f`.
use Rattle.std.specs.Prelude.{ℕ, zero, suc, ◌+◌, ◌<◌, ◌≡◌, refl, List, [], ◌∷◌, get_or}
use Rattle.std.specs.Array.{IsFromFnResult, IsFromFnResultFrom}
use Rattle.std.specs.Fn.{Called}
use denote.Param.Members.{Mut}
use mathlib.Core.Path.{subst}
use Rattle.std.proofs.Common.{sym, ◌∙◌, arith, ext_get_or}
use Rattle.arrays.specs.Tabulate.{tabulate}
use Rattle.arrays.specs.TabulateLaws.{length-tabulate, get_d_tabulate}

module _ {F A : Type 0} (g : Mut F (ℕ × Unit {0}) A) (s : F) (f : ℕ → A) (h : (k : ℕ) (y : A) (q : F) → Called g s (k, tt) y q → (y ≡ f k) × (q ≡ s)) where
  made-at : (ys : List A) (i n k m : ℕ) (d : A) → IsFromFnResultFrom g s ys i n → k < n → m ≡ i + k → get_or ys m d ≡ f m
  made-at ys i zero k m d p l e = absurd (omega arith)
  made-at ys i (suc n) zero m d p l e =
      let z : m ≡ i = omega arith in
      rw z (p.2.1 d ∙ (h i _ _ p.3).0)
  made-at ys i (suc n) (suc k) m d p l e =
      made-at ys (i + 1) n k m d (subst (λ (q : F). IsFromFnResultFrom g q ys (i + 1) n) (h i _ _ p.3).1 p.4) (omega arith) (omega arith)

  made-whole : (ys : List A) (n : ℕ) (d : A) → IsFromFnResult g s ys n → ys ≡ tabulate n f
  made-whole ys n d p = ext_get_or d ys (tabulate n f) (p.long ∙ sym (length-tabulate n f))
      (λ i l. made-at ys 0 n i i d p.each (omega (arith, p.long)) (omega arith) ∙ sym (get_d_tabulate n f i d (omega (arith, p.long))))

  pub made-tabulate : (ys : List A) (n : ℕ) → IsFromFnResult g s ys n → ys ≡ tabulate n f
  unfolding tabulate
  made-tabulate [] zero p = refl
  made-tabulate [] (suc n) p = absurd (omega (arith, p.long))
  made-tabulate (x ∷ ys) n p = made-whole (x ∷ ys) n x p
