-- A list that stands along the numbers: f gives its elements from a on. What stands along a table, a successor or a note for each
-- statement, is tied to the tree by these laws.
use Rattle.std.specs.Prelude.{ℕ, zero, suc, ◌+◌, ◌<◌, ◌≡◌, List, [], ◌∷◌, ◌++◌, length, get_or}
use Rattle.std.proofs.Common.{append_assoc, arith, length-append}
use Rattle.std.proofs.lemmas.List.{get_or_at}

module _ {A : Type 0} where
  abbrev pub Along : (ℕ → A) → ℕ → List A → Type 0
  Along f a [] = Unit
  Along f a (x ∷ xs) = (f a ≡ x) × Along f (a + 1) xs

  pub along-left : (f : ℕ → A) (a : ℕ) (xs ys : List A) → Along f a (xs ++ ys) → Along f a xs
  along-left f a [] ys h = tt
  along-left f a (x ∷ xs) ys h = (h.0, along-left f (a + 1) xs ys h.1)

  pub along-right : (f : ℕ → A) (a b : ℕ) (xs ys : List A) → a + length xs ≡ b → Along f a (xs ++ ys) → Along f b ys
  along-right f a b [] ys e h = let p : a ≡ b = omega arith in rw p at h
  along-right f a b (x ∷ xs) ys e h = along-right f (a + 1) b xs ys (omega arith) h.1

  pub along-at : (f : ℕ → A) (a : ℕ) (xs : List A) (i : ℕ) (d : A) → Along f a xs → i < length xs → f (a + i) ≡ get_or xs i d
  along-at f a [] i d h p = absurd (omega arith)
  along-at f a (x ∷ xs) zero d h p = let e : a + 0 ≡ a = omega arith in rw e h.0
  along-at f a (x ∷ xs) (suc i) d h p =
      let e : a + suc i ≡ a + 1 + i = omega arith in
      rw e (along-at f (a + 1) xs i d h.1 (omega arith))

  pub along-getD : (pre xs : List A) (d : A) (a : ℕ) → length pre ≡ a → Along (λ (n : ℕ). get_or (pre ++ xs) n d) a xs
  along-getD pre [] d a e = tt
  along-getD pre (x ∷ xs) d a e =
      (get_or_at pre x xs d a e, rw (append_assoc pre (x ∷ []) xs) at (along-getD (pre ++ (x ∷ [])) xs d (a + 1) (rw length-append (omega arith))))
