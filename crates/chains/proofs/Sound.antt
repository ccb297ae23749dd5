-- Values: what a fact set shows is true of the values that its facts are true of, and each operation keeps it so.
use Rattle.std.specs.Prelude.{ℕ, ◌+◌, ◌-◌, ◌^◌, ◌≤◌, ◌<◌, min, max, ◌*◌, ◌≡◌, ◌≢◌, Bool, cond, leb, ltb, eqb}
use Rattle.std.proofs.Math.Path.{refl}
use Rattle.std.proofs.Common.{sym, ap, ◌∙◌, arith, leb-true, le-leb, ltb-true, ltb-false, eqb-true}
use Rattle.std.proofs.Math.Bool.{true, false}
use Rattle.std.proofs.lemmas.Bool.{false≢true, eqb-false}
use Rattle.sums.specs.Numbers.{bias, max_value, zero_var}
use Rattle.sums.specs.Scale.{scale-sums}
use Rattle.sums.specs.Sums.{unbounded, concatenated, negated}
use Rattle.facts.specs.Store.{sum_at, least_sum, shown, end_shown, new_set, lowered, added, reassigned}
use Rattle.facts.specs.Store.{dropped, ranged, shifted, related, joined_sum, joined, within_end}
use Rattle.facts.specs.StoreLaws.{anew_at, least-node, shown-clear, added-left, added-right, added-shown, added-lowered, dropped-variable, ranged-variable}
use Rattle.facts.specs.StoreLaws.{shifted-variable, joined-first, joined-second, joined-both, sum-new, sum-lowered, sum-reassigned, sum-joined, within-true}
use Rattle.facts.specs.declared.FactSet.{FactSet}

-- Values of the variables, each in its range; zero is 0.
pub record InRange (v : ℕ → ℕ) : Type 0 where
  pub zero_is : v zero_var ≡ 0
  pub below : (x : ℕ) → v x ≤ max_value

-- x <= y + k is true of the values v.
abbrev pub True : (ℕ → ℕ) → ℕ → ℕ → ℕ → Type 0
True v x y k = v x + bias ≤ v y + k

-- Every fact that the set shows is true of the values v.
abbrev pub Holds : FactSet → (ℕ → ℕ) → Type 0
Holds f v = (x y k : ℕ) → x < 17 → y < 17 → shown f x y k ≡ true → True v x y k

-- The values w are v but for x.
abbrev pub Except : ℕ → (ℕ → ℕ) → (ℕ → ℕ) → Type 0
Except x v w = (i : ℕ) → i ≢ x → w i ≡ v i

-- ---- a set that holds has no mark, and its sums are true

module _ (f : FactSet) (v : ℕ → ℕ) (h : Holds f v) where
  -- A contradictory set is true of no values.
  pub holds-clear : f.contradiction ≡ false
  unfolding shown
  holds-clear = go f.contradiction refl
    where
      go : (b : Bool) → f.contradiction ≡ b → b ≡ false
      go true e = let t : True v zero_var zero_var 0 = h zero_var zero_var 0 (omega arith) (omega arith) (rw e) in absurd (omega arith)
      go false e = refl

  pub holds-sum : (x y : ℕ) → x < 17 → y < 17 → True v x y (sum_at f x y)
  holds-sum x y hx hy = h x y (sum_at f x y) hx hy
      (shown-clear f x y (sum_at f x y) holds-clear ∙ le-leb (least_sum f x y) (sum_at f x y) (omega (arith, least-node f x y hx hy)))

pub holds-of-sums : (f : FactSet) (v : ℕ → ℕ) → f.contradiction ≡ false → ((x y : ℕ) → x < 17 → y < 17 → True v x y (sum_at f x y)) → Holds f v
holds-of-sums f v e s x y k hx hy t = omega (arith, s x y hx hy, least-node f x y hx hy, leb-true (least_sum f x y) k (sym (shown-clear f x y k e) ∙ t))

-- Two chains, one after the other.
concat-true : (u v w a b : ℕ) → u ≤ max_value → u + bias ≤ v + a → v + bias ≤ w + b → u + bias ≤ w + concatenated a b
unfolding concatenated
concat-true u v w a b hu p q = go (leb (2 ^ 40) a) (leb (2 ^ 40) b)
  where
    go : (s t : Bool) → u + bias ≤ w + cond s unbounded (cond t unbounded (a + b - bias))
    go true t = omega arith
    go false true = omega arith
    go false false = omega arith

-- An end that is shown to be at most another one is.
pub end-true : (f : FactSet) (v : ℕ → ℕ) → Holds f v → (s q n k r m j : ℕ) → q < 17 → n < 17 → r < 17 → m < 17 → end_shown f s q n k r m j ≡ true
    → v q + s * v n + k ≤ v r + s * v m + j
unfolding end_shown
end-true f v h s q n k r m j hq hn hr hm t = go f.contradiction (holds-clear f v h) t
  where
    go : (b : Bool) → b ≡ false → cond b true (within_end s (least_sum f q r) (least_sum f n m) k j) ≡ true → v q + s * v n + k ≤ v r + s * v m + j
    go true e t = absurd (false≢true (sym e))
    go false e t =
        let second : v n + bias ≤ v m + least_sum f n m = omega (arith, holds-sum f v h n m hn hm, least-node f n m hn hm) in
        let scaled : s * v n + s * bias ≤ s * v m + s * least_sum f n m = scale-sums s (v n) bias (v m) (least_sum f n m) second in
        omega (arith, within-true s (least_sum f q r) (least_sum f n m) k j t, holds-sum f v h q r hq hr, least-node f q r hq hr)

either : (b : Bool) (u w old new : ℕ) → u + bias ≤ w + old → u + bias ≤ w + new → u + bias ≤ w + cond b old (min old new)
either true u w old new p q = p
either false u w old new p q = omega arith

-- ---- each operation

pub new-holds : (v : ℕ → ℕ) → InRange v → Holds new_set v
unfolding new_set
new-holds v g = holds-of-sums new_set v refl (λ x y hx hy. rw (sum-new new_set x y hx hy) (go x y (eqb x y) (eqb x zero_var) refl refl))
  where
    go : (x y : ℕ) (a b : Bool) → eqb x y ≡ a → eqb x zero_var ≡ b → v x + bias ≤ v y + cond a bias (cond b bias (bias + max_value))
    go x y true b p q = omega (arith, ap v (eqb-true x y p))
    go x y false true p q = omega (arith, ap v (eqb-true x zero_var q), g.zero_is)
    go x y false false p q = omega (arith, g.below x)

module _ (f : FactSet) (v : ℕ → ℕ) (g : InRange v) (h : Holds f v) (x y k : ℕ) where
  lowered-holds : x < 17 → y < 17 → True v x y k → Holds (lowered f x y k) v
  unfolding lowered
  lowered-holds hx hy t = holds-of-sums (lowered f x y k) v (holds-clear f v h) (λ i j hi hj. rw (sum-lowered f i j hi hj x y k) (
      let start : v i + bias ≤ v y + concatenated (sum_at f i x) k = concat-true (v i) (v x) (v y) (sum_at f i x) k (g.below i) (holds-sum f v h i x hi hx) t in
      let whole : v i + bias ≤ v j + concatenated (concatenated (sum_at f i x) k) (sum_at f y j)
      = concat-true (v i) (v y) (v j) (concatenated (sum_at f i x) k) (sum_at f y j) (g.below i) start (holds-sum f v h y j hy hj) in
      either (leb (sum_at f i y) (concatenated (sum_at f i x) k)) (v i) (v j) (sum_at f i j) (concatenated (concatenated (sum_at f i x) k) (sum_at f y j))
      (holds-sum f v h i j hi hj) whole))

  -- A true fact may be added.
  pub added-holds : (x < 17 → y < 17 → True v x y k) → Holds (added f x y k) v
  added-holds t = outer (ltb 16 x) refl (ltb 16 y) refl
    where
      inner : x < 17 → y < 17 → (s : Bool) → shown f x y k ≡ s → (b : Bool) → ltb (concatenated (sum_at f y x) k) bias ≡ b → Holds (added f x y k) v
      inner hx hy true s b q = rw (added-shown f x y k (omega arith) (omega arith) s) h
      inner hx hy false s true q =
          absurd (omega (
            arith,
            ltb-true (concatenated (sum_at f y x) k) bias q,
            concat-true (v y) (v x) (v y) (sum_at f y x) k (g.below y) (holds-sum f v h y x hy hx) (t hx hy),
          ))
      inner hx hy false s false q = rw (added-lowered f x y k (omega arith) (omega arith) s (ltb-false _ _ q)) (lowered-holds hx hy (t hx hy))

      outer : (a : Bool) → ltb 16 x ≡ a → (b : Bool) → ltb 16 y ≡ b → Holds (added f x y k) v
      outer true p b q = rw (added-left f x y k (ltb-true _ _ p)) h
      outer false p true q = rw (added-right f x y k (ltb-false _ _ p) (ltb-true _ _ q)) h
      outer false p false q = inner (omega (arith, ltb-false 16 x p)) (omega (arith, ltb-false 16 y q)) (shown f x y k) refl
          (ltb (concatenated (sum_at f y x) k) bias) refl

-- The values w are v with another value of x, which lies between y - down and y + up of the values before.
reassigned-holds : (f : FactSet) (v w : ℕ → ℕ) → InRange v → InRange w → Holds f v → (x y up down : ℕ) → x < 17 → y < 17 → Except x v w
    → w x + bias ≤ v y + up → v y + bias ≤ w x + down → Holds (reassigned f x y up down) w
unfolding reassigned
reassigned-holds f v w g g' h x y up down hx hy same u d = holds-of-sums (reassigned f x y up down) w (holds-clear f v h)
    (λ i j hi hj. rw (sum-reassigned f i j hi hj x y up down hx) (go i j hi hj (eqb i x) (eqb j x) refl refl))
  where
    go : (i j : ℕ) → i < 17 → j < 17 → (a b : Bool) → eqb i x ≡ a → eqb j x ≡ b
        → w i + bias ≤ w j + anew_at (sum_at f i j) (concatenated up (sum_at f y j)) (concatenated (sum_at f i y) down) a b
    go i j hi hj true true p q = omega (arith, ap w (eqb-true i x p ∙ sym (eqb-true j x q)))
    go i j hi hj true false p q =
        omega (
          arith,
          ap w (eqb-true i x p),
          same j (eqb-false j x q),
          concat-true (w x) (v y) (v j) up (sum_at f y j) (g'.below x) u (holds-sum f v h y j hy hj),
        )
    go i j hi hj false true p q =
        omega (
          arith,
          ap w (eqb-true j x q),
          same i (eqb-false i x p),
          concat-true (v i) (v y) (w x) (sum_at f i y) down (g.below i) (holds-sum f v h i y hi hy) d,
        )
    go i j hi hj false false p q = omega (arith, same i (eqb-false i x p), same j (eqb-false j x q), holds-sum f v h i j hi hj)

module _ (f : FactSet) (v w : ℕ → ℕ) (g : InRange v) (g' : InRange w) (h : Holds f v) (x : ℕ) (hx : x < 16) (same : Except x v w) where
  -- Any value of x in a range.
  pub ranged-holds : (bottom top : ℕ) → bottom ≤ w x → w x ≤ top → Holds (ranged f x bottom top) w
  ranged-holds bottom top l m = rw (ranged-variable f x bottom top (omega arith))
      (reassigned-holds f v w g g' h x zero_var (bias + top) (bias - bottom) (omega arith) (omega arith) same (omega (arith, g.zero_is))
      (omega (arith, g.zero_is, g'.below x)))

  -- Any value of x.
  pub dropped-holds : Holds (dropped f x) w
  dropped-holds = rw (dropped-variable f x (omega arith))
      (reassigned-holds f v w g g' h x zero_var (bias + max_value) bias (omega arith) (omega arith) same (omega (arith, g.zero_is, g'.below x))
      (omega (arith, g.zero_is)))

  -- x raised by k.
  pub shifted-holds : (k : ℕ) → w x + bias ≡ v x + k → Holds (shifted f x k) w
  shifted-holds k e = rw (shifted-variable f x k (omega arith))
      (added-holds (added (reassigned f x x k (negated k)) zero_var x bias) w g' low x zero_var (bias + max_value) (λ a b. omega (arith, g'.below x)))
    where
      raised : Holds (reassigned f x x k (negated k)) w
      raised = reassigned-holds f v w g g' h x x k (negated k) (omega arith) (omega arith) same (omega arith) (omega arith)

      low : Holds (added (reassigned f x x k (negated k)) zero_var x bias) w
      low = added-holds (reassigned f x x k (negated k)) w g' raised zero_var x bias (λ a b. omega (arith, g'.zero_is))

-- ---- join

joined-sum-true : (b : Bool) (u w z p q to₁ to₂ from₁ from₂ : ℕ) → u ≤ max_value
    → u + bias ≤ w + max p q → u + bias ≤ z + max to₁ to₂ → z + bias ≤ w + max from₁ from₂
    → u + bias ≤ w + joined_sum b p q to₁ to₂ from₁ from₂
unfolding joined_sum
joined-sum-true true u w z p q to₁ to₂ from₁ from₂ r a b c = a
joined-sum-true false u w z p q to₁ to₂ from₁ from₂ r a b c = concat-true u z w (max to₁ to₂) (max from₁ from₂) r b c

module _ (pointer : ℕ → Bool) (f g : FactSet) (v : ℕ → ℕ) (r : InRange v) where
  -- The joined sums are true where every greater sum is.
  joined-holds : f.contradiction ≡ false → g.contradiction ≡ false → ((x y : ℕ) → x < 17 → y < 17 → True v x y (max (sum_at f x y) (sum_at g x y)))
      → Holds (joined pointer f g) v
  joined-holds e d t = holds-of-sums (joined pointer f g) v (ap (λ (s : FactSet). s.contradiction) (joined-both pointer f g e d))
      (λ i j hi hj. rw (sum-joined f i j hi hj g pointer e d)
      (joined-sum-true (related pointer i j) (v i) (v j) (v zero_var) (sum_at f i j) (sum_at g i j) (sum_at f i zero_var) (sum_at g i zero_var)
      (sum_at f zero_var j) (sum_at g zero_var j)
      (r.below i) (t i j hi hj) (t i zero_var hi (omega arith)) (t zero_var j (omega arith) hj)))

  -- What is true of either side is true of the join.
  pub joined-left-holds : Holds f v → Holds (joined pointer f g) v
  joined-left-holds h = go g.contradiction refl
    where
      go : (b : Bool) → g.contradiction ≡ b → Holds (joined pointer f g) v
      go true d = rw (joined-second pointer f g (holds-clear f v h) d) h
      go false d = joined-holds (holds-clear f v h) d (λ x y hx hy. omega (arith, holds-sum f v h x y hx hy))

  pub joined-right-holds : Holds g v → Holds (joined pointer f g) v
  joined-right-holds h = go f.contradiction refl
    where
      go : (b : Bool) → f.contradiction ≡ b → Holds (joined pointer f g) v
      go true e = rw (joined-first pointer f g e) h
      go false e = joined-holds e (holds-clear g v h) (λ x y hx hy. omega (arith, holds-sum g v h x y hx hy))
