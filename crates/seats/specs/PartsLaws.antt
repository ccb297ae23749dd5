-- Laws of parts: what a turn that replaces one part leaves of the others.
use Rattle.std.specs.Prelude.{ℕ, zero, suc, ◌+◌, ◌-◌, ◌≤◌, ◌<◌, min, ◌≡◌, List, length, drop}
use Rattle.std.proofs.Common.{sym, ap, ◌∙◌, arith, length-take, length-drop, take_all}
use Rattle.turns.specs.TurnsLaws.{by_order}
use Rattle.parts.specs.Parts.{length_at, start_at, window, part_of, Replaced}
use Rattle.parts.specs.PartsLaws.{starts-order}
use Rattle.parts.specs.ReplacedLaws.{window-before, window-behind}

module _ (L : List ℕ) (kinds kind : ℕ) where
  module _ {A : Type 0} (r : ℕ) (xs new zs : List A) (some : 0 < length (part_of L kinds kind r xs))
      (same : length new ≡ length (part_of L kinds kind r xs))
      (p : Replaced (min (start_at L kinds kind r) (length xs)) (min (start_at L kinds kind r + length_at L kinds kind r) (length xs)) xs new zs) where
    abbrev s : ℕ
    s = start_at L kinds kind r

    abbrev l : ℕ
    l = length_at L kinds kind r

    begins : s < length xs
    begins = omega (arith, length-take l (drop s xs), length-drop s xs)

    -- The replaced part is the new one,
    pub part-new : part_of L kinds kind r zs ≡ new
    part-new =
        let a : min s (length xs) ≡ s = omega (arith, begins) in
        let n : length new ≡ min l (length xs - s) = same ∙ length-take l (drop s xs) ∙ ap (min l) (length-drop s xs) in
        let w : window s (length new) zs ≡ new = rw a at p.here in
        by_order (length xs) (s + l)
        (λ u. let c : length new ≡ length xs - s = omega (arith, begins) in
        take_all l (drop s zs) (omega (arith, length-drop s zs, p.long))
        ∙ sym (take_all (length new) (drop s zs) (omega (arith, length-drop s zs, p.long))) ∙ w)
        (λ u. let c : length new ≡ l = omega (arith, begins) in rw c at w)

    -- and the parts of other routines are as they were.
    pub part-other : (k : ℕ) → (k ≡ r → ⊥) → part_of L kinds kind k zs ≡ part_of L kinds kind k xs
    part-other k d = by_order k r
        (λ u. let a : min s (length xs) ≡ s = omega (arith, begins) in
        window-before (min s (length xs)) (start_at L kinds kind k) (length_at L kinds kind k) xs zs (omega (arith, starts-order L kinds kind k r u)) p.front)
        (λ u. let v : r < k = lt_of k r u d in
        window-behind (min (s + l) (length xs)) (start_at L kinds kind k) (length_at L kinds kind k) xs zs (omega (arith, starts-order L kinds kind r k v))
        p.back)
      where
        lt_of : (k r : ℕ) → r ≤ k → (k ≡ r → ⊥) → r < k
        lt_of k r u d = by_order r k (λ (x : r < k). x) (λ x. absurd (d (omega arith)))
