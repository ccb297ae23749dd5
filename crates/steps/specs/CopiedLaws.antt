-- Laws of the ends that a kind 14 copies.
use Prim.Native.Nat.{ℕ, zero, suc, ◌+◌, ◌*◌, ◌<◌, ◌≤◌}
use Rattle.std.specs.Prelude.{◌≡◌, ◌≢◌, List, length, get_or, set}
use Rattle.std.proofs.Math.Path.{refl}
use Rattle.std.proofs.Common.{ap, ◌∙◌, eq-or-lt_of_le, le_of_suc-le-suc, arith, get_or-set_same}
use Rattle.std.proofs.Math.Logic.{⊎_elim}
use Rattle.std.proofs.Math.Numerals.{add-one}
use Rattle.std.proofs.Math.ListN.{length-set}
use Rattle.std.proofs.Math.Seq.{get_or-set_other}
use Rattle.steps.specs.Bare.{copied}

module _ (p r : ℕ) (W : List ℕ) where
  pub copied-long : (n : ℕ) → length (copied n p r W) ≡ length W
  unfolding copied
  copied-long zero = refl
  copied-long (suc n) = length-set (copied n p r W) (6 * p + n) (get_or W (96 + 6 * r + n) 0) ∙ copied-long n

  pub copied-inside : (n j : ℕ) → j < n → 6 * p + n ≤ length W → get_or (copied n p r W) (6 * p + j) 0 ≡ get_or W (96 + 6 * r + j) 0
  unfolding copied
  copied-inside zero j l b = absurd (omega arith)
  copied-inside (suc n) j l b =
      ⊎_elim
      (λ (e : j ≡ n). rw e (get_or-set_same (copied n p r W) (6 * p + n) (get_or W (96 + 6 * r + n) 0) 0 (omega (arith, copied-long n))))
      (λ (m : j < n). get_or-set_other (copied n p r W) (6 * p + n) (6 * p + j) (get_or W (96 + 6 * r + n) 0) 0 (λ e. omega arith)
      ∙ copied-inside n j m (omega arith))
      (eq-or-lt_of_le (le_of_suc-le-suc l))

  pub copied-outside : (n i : ℕ) → ((j : ℕ) → j < n → i ≢ 6 * p + j) → get_or (copied n p r W) i 0 ≡ get_or W i 0
  unfolding copied
  copied-outside zero i f = refl
  copied-outside (suc n) i f = get_or-set_other (copied n p r W) (6 * p + n) i (get_or W (96 + 6 * r + n) 0) 0 (f n (omega arith))
      ∙ copied-outside n i (λ j l. f j (omega arith))

  -- One more turn of the code's loop: what it reads is what was there.
  pub copied_more : (n : ℕ) (l : List ℕ) → p < 16 → n < 6 → l ≡ copied n p r W → set l (6 * p + n) (get_or l (96 + 6 * r + n) 0) ≡ copied (n + 1) p r W
  unfolding copied
  copied_more n l b m e = rw (e, add-one n, copied-outside n (96 + 6 * r + n) (λ j k q. omega arith))

  -- What the loop's invariant says, before the first turn, after one more and at the end.
  pub copied_none : W ≡ copied 0 p r W
  unfolding copied
  copied_none = refl

  pub more-long : (n : ℕ) (l : List ℕ) → p < 16 → n < 6 → l ≡ copied n p r W → length (set l (6 * p + n) (get_or l (96 + 6 * r + n) 0)) ≡ length W
  more-long n l b m e = ap length (copied_more n l b m e) ∙ copied-long (n + 1)

  pub copied_all : (n : ℕ) (l : List ℕ) → n ≤ 6 → 6 ≤ n → l ≡ copied n p r W → l ≡ copied 6 p r W
  copied_all n l a b e = let q : n ≡ 6 = omega arith in e ∙ ap (λ (k : ℕ). copied k p r W) q
