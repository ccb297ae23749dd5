-- Part of a list written over: what a loop, `for i in 0..n { list[at + i] = v(i); }`, leaves of a lent slice.
use Rattle.std.specs.Prelude.{ℕ, zero, suc, ◌+◌, ◌-◌, ◌≤◌, ◌<◌, ◌≡◌, refl, Bool, true, false, List, ltb, length, get_or, set}
use Rattle.std.proofs.Common.{sym, ◌∙◌, ap, ⊎_elim, eq-or-lt_of_le, arith, ltb-true, ltb-false, length-set, get_or-set_same, get_or-set_other, rules}
use Rattle.std.proofs.lemmas.List.{places}
use borrow.Rule.Slice.PartMut.{put_mid}

-- The n elements from `at` on are those of v, every other one is what it was.
pub record Overwritten {A : Type 0} (d : A) (old : List A) (at n : ℕ) (v : ℕ → A) (new : List A) : Type 0 where
  pub long : length new ≡ length old
  pub inside : (i : ℕ) → i < n → get_or new (at + i) d ≡ v i
  pub below : (i : ℕ) → i < at → get_or new i d ≡ get_or old i d
  pub behind : (i : ℕ) → at + n ≤ i → get_or new i d ≡ get_or old i d

module _ {A : Type 0} {d : A} where
  pub over_none : (l : List A) (at : ℕ) (v : ℕ → A) → Overwritten d l at 0 v l
  over_none l at v = record { long = refl; inside = λ i p. absurd (omega arith); below = λ i p. refl; behind = λ i p. refl }

  pub over-more : {old new : List A} {at n : ℕ} {v : ℕ → A} {a : A} → Overwritten d old at n v new → at + n < length old → a ≡ v n
      → Overwritten d old at (n + 1) v (set new (at + n) a)
  over-more {old} {new} {at} {n} {v} {a} p q e = record {
    long = length-set new (at + n) a ∙ p.long;
    inside = λ i r. ⊎_elim
        (λ (z : i ≡ n). rw z (get_or-set_same new (at + n) a d (omega (arith, p.long)) ∙ e))
        (λ (l : i < n). get_or-set_other new (at + n) (at + i) a d (λ z. omega arith) ∙ p.inside i l)
        (eq-or-lt_of_le (omega arith));
    below = λ i r. get_or-set_other new (at + n) i a d (λ z. omega arith) ∙ p.below i r;
    behind = λ i r. get_or-set_other new (at + n) i a d (λ z. omega arith) ∙ p.behind i (omega arith);
  }

  -- A part written at once, by `list[at..at + n].copy_from_slice(..)`.
  pub over-part : (old part : List A) (at n k : ℕ) {v : ℕ → A} → length part ≡ n → k ≡ n → at + n ≤ length old
      → ((i : ℕ) → i < n → get_or part i d ≡ v i) → Overwritten d old at n v (put_mid at k old part)
  over-part old part at n k {v} p q r e = record {
    long = search (rules, places);
    inside = λ i l. (search (rules, places)) ∙ e i l;
    below = λ i l. search (rules, places);
    behind = λ i l. search (rules, places);
  }

  -- One part behind the other.
  pub over-then : {old mid new : List A} {at b n m : ℕ} {v u : ℕ → A} {w : ℕ → A} → Overwritten d old at n v mid → Overwritten d mid b m u new → b ≡ at + n
      → ((i : ℕ) → i < n → v i ≡ w i) → ((i : ℕ) → i < m → u i ≡ w (n + i)) → Overwritten d old at (n + m) w new
  over-then {old} {mid} {new} {at} {b} {n} {m} {v} {u} {w} p q e f g = record {
    long = q.long ∙ p.long;
    inside = go;
    below = λ i r. q.below i (omega arith) ∙ p.below i r;
    behind = λ i r. q.behind i (omega arith) ∙ p.behind i (omega arith);
  }
    where
      there : (i : ℕ) → n ≤ i → i < n + m → get_or new (at + i) d ≡ w i
      there i l r =
          let z : at + i ≡ b + (i - n) = omega arith in
          let y : n + (i - n) ≡ i = omega arith in
          rw z (q.inside (i - n) (omega arith) ∙ (g (i - n) (omega arith) ∙ rw y))

      go : (i : ℕ) → i < n + m → get_or new (at + i) d ≡ w i
      go i r = near (ltb i n) refl
        where
          near : (x : Bool) → ltb i n ≡ x → get_or new (at + i) d ≡ w i
          near true s = let l = ltb-true i n s in q.below (at + i) (omega arith) ∙ (p.inside i l ∙ f i l)
          near false s = there i (ltb-false i n s) r
