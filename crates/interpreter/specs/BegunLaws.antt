-- An entry that no cause refuses is begun, in the sense of the soundness theorem.
use Prim.Native.Nat.{ℕ, zero, suc, ◌+◌, ◌*◌, ◌≤◌, ◌<◌, ◌-◌}
use Rattle.std.specs.Prelude.{◌≡◌, refl, ◌≢◌, Bool, false, not, ◌&&◌, ◌||◌, List, ltb, length}
use Rattle.std.proofs.Math.Bool.{true}
use native.Mathlib.Omega.{arith}
use borrow.Author.Tests.{ltb-true, ltb-false, leb-true, eqb-true, ne_eqb, eq-eqb}
use Rattle.std.proofs.Math.Decide.{ℕ_discrete}
use Rattle.std.proofs.Math.Dec.{leb, eqb}
use Rattle.std.proofs.Math.ListN.{get_or}
use Rattle.sums.specs.Numbers.{max_value}
use Rattle.words.specs.SectionsLaws.{both}
use Rattle.words.specs.declared.sections.Sections.{Sections}
use Rattle.rules.specs.BoundsRules.{is_pointer, object_length}
use Rattle.rules.specs.declared.Environment.{Environment}
use Rattle.machine.specs.Machine.{value, bounds_true, low, high}
use Rattle.entry.specs.Entry.{end_before, pair_right, entry_right, last_right}
use Rattle.machine.specs.Points.{LastZero}
use Rattle.machine.specs.Soundness.{Placed, Apart, Begun}
use Rattle.interpreter.specs.StartLaws.{Admitted, origin-inside}

three : (a b c : Bool) → (a && b && c) ≡ true → (a ≡ true) × (b ≡ true) × (c ≡ true)
three true true c e = (refl, refl, e)
three true false c e = (refl, e, cc)
three false b c e = (e, cc, cc)

module _ (h : Sections) (E : Environment) (D cs vs os : List ℕ) (A : Admitted h E D cs vs os) where
  end-positive : (o : ℕ) → o ≤ h.objects → 1 ≤ end_before D o
  unfolding end_before pair_right
  end-positive zero l = omega arith
  end-positive (suc o) l =
      let t = three (leb (end_before D o) (get_or D (2 * o) 0)) _ _ (A.objects o l) in
      omega (arith, leb-true (end_before D o) (get_or D (2 * o) 0) t.0, end-positive o (omega arith))

  pair-placed : (o : ℕ) → o < h.objects → Placed E D (length cs) o
  unfolding pair_right
  pair-placed o l =
      let t = three (leb (end_before D o) (get_or D (2 * o) 0)) (leb (get_or D (2 * o) 0 + get_or D (2 * o + 1) 0) (length cs))
      (eqb (get_or D (2 * o + 1) 0) (object_length E o)) (A.objects o l) in
      record {
        first = omega (arith, leb-true (end_before D o) (get_or D (2 * o) 0) t.0, end-positive o (omega arith));
        long = eqb-true _ _ t.2;
        inside = leb-true _ _ t.1;
      }

  -- ---- no cell is in two objects

  -- An object begins where the one before it has ended.
  pair-after : (o : ℕ) → o < h.objects → end_before D o ≤ low D o
  unfolding pair_right
  pair-after o l =
      let t = both (leb (end_before D o) (get_or D (2 * o) 0) && leb (high D o) (length cs)) (eqb (get_or D (2 * o + 1) 0) (object_length E o))
      (A.objects o l) in
      leb-true (end_before D o) (low D o) (both (leb (end_before D o) (get_or D (2 * o) 0)) (leb (high D o) (length cs)) t.0).0

  in-order : (o d : ℕ) → o + suc d < h.objects → high D o ≤ low D (o + suc d)
  unfolding end_before
  in-order o zero l = let q : o + 1 ≡ suc o = omega arith in rw q (pair-after (suc o) (omega arith))
  in-order o (suc d) l =
      let q : o + suc (suc d) ≡ suc (o + suc d) = omega arith in
      rw q (omega (arith, in-order o d (omega arith), pair-after (suc (o + suc d)) (omega arith)))

  apart : (o k i : ℕ) → o < k → k < h.objects → i < high D o → low D k ≤ i → ⊥
  apart o k i l m b a = go (k - suc o) refl
    where
      go : (d : ℕ) → k - suc o ≡ d → ⊥
      go d e = let q : k ≡ o + suc d = omega arith in omega (arith, rw q at a, in-order o d (rw q at m))

  pub one-object : Apart D h.objects
  one-object o k i l m a b c d = go (ltb o k) (ltb-true o k) (ltb-false o k) (ltb k o) (ltb-true k o) (ltb-false k o)
    where
      go : (x : Bool) → (x ≡ true → o < k) → (x ≡ false → k ≤ o) → (y : Bool) → (y ≡ true → k < o) → (y ≡ false → o ≤ k) → o ≡ k
      go true p p' y q q' = absurd (apart o k i (p refl) m b c)
      go false p p' true q q' = absurd (apart k o i (q refl) l d a)
      go false p p' false q q' = omega (arith, p' refl, q' refl)

  -- The last cell of a terminated object is 0.
  last-zero : LastZero E D h.objects cs
  unfolding last_right
  last-zero o l z = let e : (not true || eqb (get_or cs (high D o - 1) 0) 0) ≡ true = rw z at (A.last o l) in eqb-true _ _ e

  -- The bounds of a pointer that is not null are true.
  pointer-right : (p : ℕ) → is_pointer E p ≡ true → p < h.variables → value vs p ≢ 0 → bounds_true E D vs os p ≡ true
  unfolding entry_right
  pointer-right p q l n = rw (q, ne_eqb (value vs p) 0 n) at (A.entries p l)

  null-right : (p : ℕ) → value vs p ≡ 0 → bounds_true E D vs os p ≡ true
  unfolding bounds_true
  null-right p z = rw (eq-eqb (value vs p) 0 z)

  pub entry-begun : ((x : ℕ) → get_or vs x 0 ≤ max_value) → ((i : ℕ) → get_or cs i 0 ≤ max_value) → ((p : ℕ) → is_pointer E p ≡ true → p < h.variables)
      → Begun h E D cs vs os
  entry-begun small-values small-cells few = record {
    pairs = A.pairs;
    placed = pair-placed;
    apart = one-object;
    memory = A.memory;
    values-long = A.values;
    origins-long = A.origins;
    values-small = small-values;
    cells-small = small-cells;
    bounds = λ p q. go p q (ℕ_discrete (value vs p) 0);
    origins = origin-inside h E D cs vs os A;
    last-zero = last-zero;
  }
    where
      go : (p : ℕ) → is_pointer E p ≡ true → Dec (value vs p ≡ 0) → bounds_true E D vs os p ≡ true
      go p q (yes z) = null-right p z
      go p q (no n) = pointer-right p q (few p q) n
