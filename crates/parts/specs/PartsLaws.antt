-- Laws of parts: what is cut, and where a part begins.
use Prim.Native.Nat.{ℕ, zero, suc, ◌+◌, ◌-◌, ◌*◌, ◌^◌, ◌≤◌, ◌<◌, min}
use Rattle.std.specs.Prelude.{◌≡◌, Bool, true, false, List, [], leb, length, take, drop, get_or}
use Rattle.std.proofs.Math.Path.{refl, ap, ap₂}
use Rattle.std.proofs.Common.{sym, ◌∙◌, add-one, leb-true, leb-false, length-drop, drop_of_length-le, take_all}
use native.Mathlib.Omega.{arith}
use Rattle.std.proofs.Math.Seq.{take-nil, get_or-take}
use Rattle.parts.specs.Parts.{length_at, start_at, window, part_of, span_of, between}
use Rattle.parts.specs.declared.Span.{Span}

-- A window is cut at the end of its list.
module _ {A : Type 0} (s l : ℕ) (xs : List A) where
  abbrev Cut : Type 0
  Cut = window (min s (length xs)) (min (s + l) (length xs) - min s (length xs)) xs ≡ window s l xs

  past : length xs < s → Cut
  past u =
      let a : min s (length xs) ≡ length xs = omega arith in
      let e : drop s xs ≡ [] = drop_of_length-le xs {i = s} (omega arith) in
      let f : drop (length xs) xs ≡ [] = drop_of_length-le xs {i = length xs} (omega arith) in
      rw (a, e, f) (take-nil (min (s + l) (length xs) - length xs) ∙ sym (take-nil l))

  long : s ≤ length xs → length xs < s + l → Cut
  long u v =
      let a : min s (length xs) ≡ s = omega arith in
      let n : min (s + l) (length xs) - s ≡ length xs - s = omega arith in
      rw (a, n) (take_all (length xs - s) (drop s xs) (omega (arith, length-drop s xs))
      ∙ sym (take_all l (drop s xs) (omega (arith, length-drop s xs))))

  short : s ≤ length xs → s + l ≤ length xs → Cut
  short u v =
      let a : min s (length xs) ≡ s = omega arith in
      let n : min (s + l) (length xs) - s ≡ l = omega arith in rw (a, n)

  pub cut-window : Cut
  cut-window = go (leb s (length xs)) (leb (s + l) (length xs)) refl refl
    where
      go : (b c : Bool) → leb s (length xs) ≡ b → leb (s + l) (length xs) ≡ c → Cut
      go false c p q = past (leb-false s (length xs) p)
      go true false p q = long (leb-true s (length xs) p) (leb-false (s + l) (length xs) q)
      go true true p q = short (leb-true s (length xs) p) (leb-true (s + l) (length xs) q)

abbrev span : ℕ → ℕ → Span
span a b = record { start = a; end = b }

module _ (L : List ℕ) (kinds kind : ℕ) where
  pub length-at : (r n : ℕ) → n ≡ get_or L (kinds * r + kind) 0 → n ≡ length_at L kinds kind r
  unfolding length_at
  length-at r n e = e

  pub start_none : 0 ≡ start_at L kinds kind 0
  unfolding start_at
  start_none = refl

  pub start-more : (r s n : ℕ) → s ≡ start_at L kinds kind r → n ≡ length_at L kinds kind r → s + n ≡ start_at L kinds kind (r + 1)
  unfolding start_at
  start-more r s n e f = rw (add-one r, e, f)

  pub start-end : (i r s : ℕ) → s ≡ start_at L kinds kind i → i ≤ r → r ≤ i → s ≡ start_at L kinds kind r
  start-end i r s e a b = let q : i ≡ r = omega arith in e ∙ ap (start_at L kinds kind) q

  pub span-made : (r n s e a b : ℕ) → s ≡ start_at L kinds kind r → e ≡ length_at L kinds kind r → a ≡ min s n → b ≡ min (s + e) n
      → ◌≡◌ {A = Span} (record { start = a; end = b }) (span_of L kinds kind r n)
  span-made r n s e a b f g x y = ap₂ span (x ∙ ap (λ (m : ℕ). min m n) f) (y ∙ rw (f, g))

-- Parts come one after the other.
module _ (L : List ℕ) (kinds kind : ℕ) where
  pub starts_apart : (r d : ℕ) → start_at L kinds kind r + length_at L kinds kind r ≤ start_at L kinds kind (r + suc d)
  unfolding start_at
  starts_apart r zero = let q : r + 1 ≡ suc r = omega arith in omega (arith, ap (start_at L kinds kind) q)
  starts_apart r (suc d) = let q : r + suc (suc d) ≡ suc (r + suc d) = omega arith in omega (arith, ap (start_at L kinds kind) q, starts_apart r d)

  pub starts-order : (r k : ℕ) → r < k → start_at L kinds kind r + length_at L kinds kind r ≤ start_at L kinds kind k
  starts-order r k l = let q : r + suc (k - suc r) ≡ k = omega arith in rw q at (starts_apart r (k - suc r))

pub span-within : (n s e a b : ℕ) → s ≤ 2 ^ 36 → a ≡ min s n → b ≡ min (s + e) n → (a ≤ b) × (b ≤ n) × (a ≤ 2 ^ 36)
span-within n s e a b z x y = (omega arith, omega arith, omega arith)

pub between-part : {A : Type 0} (L : List ℕ) (kinds kind r n : ℕ) (xs : List A) → n ≡ length xs
    → between (span_of L kinds kind r n) xs ≡ part_of L kinds kind r xs
between-part L kinds kind r n xs e = rw e (cut-window (start_at L kinds kind r) (length_at L kinds kind r) xs)

-- One length a routine: the lengths of the first n routines say where these lie.
module _ (L : List ℕ) (n : ℕ) where
  first-length : (k : ℕ) → k < n → length_at (take n L) 1 0 k ≡ length_at L 1 0 k
  unfolding length_at
  first-length k l = get_or-take n L (1 * k + 0) 0 (omega arith)

  first-start : (k : ℕ) → k ≤ n → start_at (take n L) 1 0 k ≡ start_at L 1 0 k
  unfolding start_at
  first-start zero l = refl
  first-start (suc k) l = ap₂ (λ (a b : ℕ). a + b) (first-start k (omega arith)) (first-length k (omega arith))

  pub first_part : {A : Type 0} (k : ℕ) (xs : List A) → k < n → part_of (take n L) 1 0 k xs ≡ part_of L 1 0 k xs
  first_part k xs l = ap₂ (λ (s m : ℕ). window s m xs) (first-start k (omega arith)) (first-length k l)
