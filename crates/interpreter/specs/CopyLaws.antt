-- What is copied into a slice, number by number.
use Rattle.std.specs.Prelude.{ℕ, ◌+◌, ◌<◌, ◌≤◌, ◌≡◌, refl, Bool, true, false, List, ltb, length, get_or, set}
use Rattle.std.proofs.Common.{◌∙◌, arith, ltb-true, ltb-false, get_or-set_same, get_or-set_other}

-- The first i numbers of l are those of m; so are i + 1 after a store.
pub copied_more : (l m : List ℕ) (i : ℕ) → i < length l → ((j : ℕ) → j < i → get_or l j 0 ≡ get_or m j 0)
    → (j : ℕ) → j < i + 1 → get_or (set l i (get_or m i 0)) j 0 ≡ get_or m j 0
copied_more l m i w f j b = go (ltb j i) (ltb-true j i) (ltb-false j i)
  where
    go : (x : Bool) → (x ≡ true → j < i) → (x ≡ false → i ≤ j) → get_or (set l i (get_or m i 0)) j 0 ≡ get_or m j 0
    go true p q = get_or-set_other l i j (get_or m i 0) 0 (λ e. omega (arith, p refl)) ∙ f j (p refl)
    go false p q = let e : j ≡ i = omega (arith, q refl) in rw e (get_or-set_same l i (get_or m i 0) 0 w)
