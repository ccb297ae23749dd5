-- The lowest number at which a test fails, as `arrays::lowest` finds it.
use Prim.Native.Nat.{ℕ, zero, suc, ◌+◌, ◌≤◌, ◌<◌}
use Rattle.std.specs.Prelude.{◌≡◌, Bool, not}
use Rattle.std.proofs.Math.Path.{refl, ap, sym}
use Rattle.std.proofs.Common.{◌∙◌, eq-or-lt_of_le}
use Rattle.std.proofs.Math.Bool.{true, false, cond}
use Rattle.std.proofs.Math.Logic.{⊎_elim}
use native.Mathlib.Omega.{arith}
use Rattle.arrays.specs.Lowest.{LowestAt}
use Rattle.table.specs.Form.{lowest_from}

module _ (right : ℕ → Bool) where
  from-lowest : (found count n i : ℕ) → count ≡ i + n → i ≤ found → found ≤ count → ((k : ℕ) → k < found → right k ≡ true)
      → (found < count → right found ≡ false) → found ≡ lowest_from right i n
  unfolding lowest_from
  from-lowest found count zero i s l u p e = omega arith
  from-lowest found count (suc n) i s l u p e =
      ⊎_elim (λ (m : i ≡ found). let h : right i ≡ false = ap right m ∙ e (omega arith) in rw h (sym m))
      (λ (m : i < found). let h = p i m in rw h (from-lowest found count n (i + 1) (omega arith) (omega arith) u p e))
      (eq-or-lt_of_le l)

  -- Where the search's test answers the contrary of `right`.
  pub lowest-is : {answers : ℕ → Bool → Type 0} {count found : ℕ} → LowestAt answers count found
      → ((i : ℕ) (b : Bool) → i < count → answers i b → right i ≡ not b) → found ≡ lowest_from right 0 count
  lowest-is {answers} {count} {found} p e =
      from-lowest found count count 0 (omega arith) (omega arith) p.within (λ k l. e k false (omega (arith, p.within)) (p.before k l))
      (λ l. e found true l (p.there l))

  -- Where nothing fails, the test holds at each number.
  from-holds : (n i : ℕ) → i + n ≤ lowest_from right i n → (k : ℕ) → i ≤ k → k < i + n → right k ≡ true
  unfolding lowest_from
  from-holds zero i h k l u = absurd (omega arith)
  from-holds (suc n) i h k l u = go (right i) refl h (λ g m. from-holds n (i + 1) g k m (omega arith))
    where
      go : (b : Bool) → right i ≡ b → i + suc n ≤ cond b (lowest_from right (i + 1) n) i
          → (i + 1 + n ≤ lowest_from right (i + 1) n → i + 1 ≤ k → right k ≡ true)
          → right k ≡ true
      go true e g later =
          ⊎_elim (λ (s : i ≡ k). ap right (sym s) ∙ e) (λ (m : i < k). later (omega (arith, g)) (omega arith)) (eq-or-lt_of_le l)
      go false e g later = absurd (omega (arith, g))

  pub holds-below : (n : ℕ) → n ≤ lowest_from right 0 n → (k : ℕ) → k < n → right k ≡ true
  holds-below n h k l = from-holds n 0 (omega arith) k (omega arith) (omega arith)
