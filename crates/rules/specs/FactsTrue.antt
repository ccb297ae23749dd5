-- The facts that the rules give are true of the values that they are about.
use Prim.Native.Nat.{ℕ, zero, suc, ◌+◌, ◌-◌, ◌≤◌, ◌<◌}
use Rattle.std.specs.Prelude.{◌≡◌, ◌≢◌, ◌⊎◌, Bool, ◌&&◌, ◌||◌, List, [], ◌∷◌, ◌++◌, ltb, eqb}
use Rattle.std.proofs.Math.Path.{refl, ap}
use Rattle.std.proofs.Common.{sym, ◌∙◌, inl, inr, ⊎_elim, arith, eq-or-lt_of_le, ltb-true, ltb-false, lt-ltb, le-ltb, eqb-true}
use Rattle.std.proofs.Math.Bool.{true, false, cond}
use Rattle.std.proofs.lemmas.Bool.{false≢true, eqb-false}
use Rattle.arrays.specs.Choice.{cond_either}
use Rattle.sums.specs.Numbers.{bias, max_value, zero_var}
use Rattle.facts.specs.Store.{shown, in_range, added, dropped}
use Rattle.chains.proofs.Sound.{InRange, True, Holds, Except, added-holds, dropped-holds}
use Rattle.facts.specs.declared.FactSet.{FactSet}
use Rattle.words.specs.SectionsLaws.{both}
use Rattle.words.specs.NameLaws.{either}
use Rattle.rules.specs.FactRules.{among}
use Rattle.rules.specs.Stored.{equated, positive, dropped_each, loop_facts}
use Rattle.rules.specs.FactRules as fact_rules

-- Neither of two tests holds.
pub neither : (a b : Bool) → (a || b) ≡ false → (a ≡ false) × (b ≡ false)
neither true b e = absurd (false≢true (sym e))
neither false b e = (refl, e)

pub nor : (a b : Bool) → a ≡ false → b ≡ false → (a || b) ≡ false
nor true b p q = p
nor false b p q = q

-- ---- values that agree but for some variables

-- The values w are v but for the variables of the list.
abbrev pub Agree : List ℕ → (ℕ → ℕ) → (ℕ → ℕ) → Type 0
Agree A v w = (z : ℕ) → among z A ≡ false → w z ≡ v z

pub among-left : (z : ℕ) (A B : List ℕ) → among z (A ++ B) ≡ false → among z A ≡ false
unfolding among
among-left z [] B e = refl
among-left z (x ∷ A) B e = let p = neither (eqb z x) (among z (A ++ B)) e in nor (eqb z x) (among z A) p.0 (among-left z A B p.1)

pub among-right : (z : ℕ) (A B : List ℕ) → among z (A ++ B) ≡ false → among z B ≡ false
unfolding among
among-right z [] B e = e
among-right z (x ∷ A) B e = among-right z A B (neither (eqb z x) (among z (A ++ B)) e).1

-- One variable: every other one is not among them.
pub among_one : (z x : ℕ) → among z (x ∷ []) ≡ false → z ≢ x
unfolding among
among_one z x e = eqb-false z x (neither (eqb z x) false e).0

pub holds_same : (f : FactSet) (v w : ℕ → ℕ) → Holds f v → ((x : ℕ) → x < 17 → w x ≡ v x) → Holds f w
holds_same f v w h e x y k hx hy s = omega (arith, h x y k hx hy s, e x hx, e y hy)

-- ---- facts about one or two variables

module _ (f : FactSet) (v : ℕ → ℕ) (g : InRange v) (h : Holds f v) where
  pub equated-holds : (x y k : ℕ) → v x + bias ≡ v y + k → Holds (equated f x y k) v
  unfolding fact_rules.equated
  equated-holds x y k e =
      added-holds (added f x y k) v g (added-holds f v g h x y k (λ a b. omega arith)) y x _ (λ a b. omega arith)

  pub positive-holds : (x : ℕ) → 1 ≤ v x → Holds (positive f x) v
  unfolding fact_rules.positive
  positive-holds x p = added-holds f v g h zero_var x _ (λ a b. omega (arith, g.zero_is))

  -- Where the sum is shown to be in range, it is.
  pub sum-in-range : (y k : ℕ) → y < 17 → in_range f y k ≡ true → (bias ≤ v y + k) × (v y + k ≤ bias + max_value)
  sum-in-range y k hy e = go (either (eqb k bias) (shown f zero_var y k && shown f y zero_var (bias + max_value + bias - k)) e)
    where
      go : (eqb k bias ≡ true) ⊎ ((shown f zero_var y k && shown f y zero_var (bias + max_value + bias - k)) ≡ true)
          → (bias ≤ v y + k) × (v y + k ≤ bias + max_value)
      go (inl t) = let z : k ≡ bias = eqb-true k bias t in (omega arith, omega (arith, g.below y))
      go (inr t) =
          let p = both (shown f zero_var y k) (shown f y zero_var (bias + max_value + bias - k)) t in
          let low : True v zero_var y k = h zero_var y k (omega arith) hy p.0 in
          let high : True v y zero_var (bias + max_value + bias - k) = h y zero_var (bias + max_value + bias - k) hy (omega arith) p.1 in
          (omega arith, omega (arith, g.zero_is))

-- ---- the variables assigned in a loop are dropped

-- The values w at the lost variables below n, the values v at the others.
abbrev mixed : (ℕ → Bool) → (ℕ → ℕ) → (ℕ → ℕ) → ℕ → ℕ → ℕ
mixed lost v w n z = cond (ltb z n && lost z) (w z) (v z)

module _ (lost : ℕ → Bool) (v w : ℕ → ℕ) (g : InRange v) (g' : InRange w) where
  mixed-range : (n : ℕ) → InRange (mixed lost v w n)
  mixed-range n =
      record {
        zero_is = cond_either (λ a. a ≡ 0) (ltb zero_var n && lost zero_var) (w zero_var) (v zero_var) g'.zero_is g.zero_is;
        below = λ x. cond_either (λ a. a ≤ max_value) (ltb x n && lost x) (w x) (v x) (g'.below x) (g.below x);
      }

  test-next : (n z : ℕ) → z ≢ n → ltb z (suc n) ≡ ltb z n
  test-next n z e = go (ltb z n) refl
    where
      go : (b : Bool) → ltb z n ≡ b → ltb z (suc n) ≡ b
      go true p = lt-ltb z (suc n) (omega (arith, ltb-true z n p))
      go false p =
          ⊎_elim (λ (q : n ≡ z). absurd (e (sym q))) (λ (q : n < z). le-ltb z (suc n) (omega arith)) (eq-or-lt_of_le (ltb-false z n p))

  mixed-except : (n : ℕ) → Except n (mixed lost v w n) (mixed lost v w (suc n))
  mixed-except n z e = ap (λ (b : Bool). cond (b && lost z) (w z) (v z)) (test-next n z e)

  unlost : (b : Bool) (z : ℕ) → lost z ≡ false → cond (b && lost z) (w z) (v z) ≡ v z
  unlost true z e = rw e
  unlost false z e = refl

  mixed-kept : (n : ℕ) → lost n ≡ false → (z : ℕ) → mixed lost v w (suc n) z ≡ mixed lost v w n z
  mixed-kept n e z = go (eqb z n) refl
    where
      go : (b : Bool) → eqb z n ≡ b → mixed lost v w (suc n) z ≡ mixed lost v w n z
      go true p = let q : lost z ≡ false = ap lost (eqb-true z n p) ∙ e in unlost (ltb z (suc n)) z q ∙ sym (unlost (ltb z n) z q)
      go false p = mixed-except n z (eqb-false z n p)

  dropped-each-holds : (f : FactSet) → Holds f v → (n : ℕ) → n ≤ 16 → Holds (dropped_each n lost f) (mixed lost v w n)
  unfolding fact_rules.dropped_each
  dropped-each-holds f h zero p = holds_same f v (mixed lost v w 0) h (λ x hx. ap (λ (b : Bool). cond (b && lost x) (w x) (v x)) (le-ltb x 0 (omega arith)))
  dropped-each-holds f h (suc n) p = go (lost n) refl (dropped-each-holds f h n (omega arith))
    where
      go : (b : Bool) → lost n ≡ b → Holds (dropped_each n lost f) (mixed lost v w n)
          → Holds (cond b (dropped (dropped_each n lost f) n) (dropped_each n lost f)) (mixed lost v w (suc n))
      go true e i = dropped-holds (dropped_each n lost f) (mixed lost v w n) (mixed lost v w (suc n)) (mixed-range n) (mixed-range (suc n)) i n
          (omega arith) (mixed-except n)
      go false e i = holds_same (dropped_each n lost f) (mixed lost v w n) (mixed lost v w (suc n)) i (λ x hx. mixed-kept n e x)

-- The facts at a loop's head are true of any values that differ from those before the loop only at what the body assigns.
pub loop-facts-hold : (A : List ℕ) (f : FactSet) (v w : ℕ → ℕ) → InRange v → InRange w → Holds f v → Agree A v w → Holds (loop_facts A f) w
unfolding fact_rules.loop_facts
loop-facts-hold A f v w g g' h a =
    holds_same (dropped_each 16 (λ x. among x A) f) (mixed (λ x. among x A) v w 16) w (dropped-each-holds (λ x. among x A) v w g g' f h 16 (omega arith))
    (λ x hx. same x hx (among x A) refl)
  where
    at_zero : (x : ℕ) → zero_var ≡ x → w x ≡ cond (ltb x 16 && true) (w x) (v x)
    at_zero x e =
        let p : w x ≡ 0 = ap w (sym e) ∙ g'.zero_is in
        let q : v x ≡ 0 = ap v (sym e) ∙ g.zero_is in
        p ∙ sym (cond_either (λ n. n ≡ 0) (ltb x 16 && true) (w x) (v x) p q)

    same : (x : ℕ) → x < 17 → (b : Bool) → among x A ≡ b → w x ≡ cond (ltb x 16 && among x A) (w x) (v x)
    same x hx false e = a x e ∙ sym (cond_either (λ n. n ≡ v x) (ltb x 16 && among x A) (w x) (v x) (a x e) refl)
    same x hx true e =
        let l : x < 16 → w x ≡ cond (ltb x 16 && true) (w x) (v x) = λ p. rw (lt-ltb x 16 p) in
        rw e (⊎_elim (λ (p : x ≡ 16). at_zero x (sym p)) l (eq-or-lt_of_le (let u : x ≤ 16 = omega arith in u)))
