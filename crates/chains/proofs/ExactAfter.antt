-- Each operation keeps the fact set exact, for what is known after it.
use Rattle.std.specs.Prelude.{ℕ, ◌+◌, ◌-◌, ◌^◌, ◌≤◌, ◌<◌, min, max, ◌≡◌, refl, ◌≢◌, Bool, true, false, cond, leb, ltb, eqb}
use Rattle.std.proofs.Common.{sym, ap, ◌∙◌, inr, arith, leb-true, leb-false, ltb-true, ltb-false, eqb-true, ne_eqb}
use Rattle.std.proofs.lemmas.Bool.{false≢true}
use Rattle.std.proofs.Math.Decide.{ℕ_discrete}
use Rattle.sums.specs.Numbers.{bias, max_value, zero_var}
use Rattle.sums.specs.Sums.{concatenated, negated}
use Rattle.facts.specs.Store.{sum_at, least_sum, shown, new_set, lowered, marked, added, reassigned, dropped, ranged, shifted, related, joined_sum, joined}
use Rattle.sums.specs.SumsLaws.{concat-plain}
use Rattle.facts.specs.StoreLaws.{least-node, shown-clear, not-shown, added-shown, added-closed, added-lowered, dropped-variable, ranged-variable}
use Rattle.facts.specs.StoreLaws.{shifted-variable, joined-first, joined-second, joined-both, sum-new, sum-lowered, sum-reassigned, sum-joined, anew_at}
use Rattle.chains.specs.Facts.{Variables, Node, Comparable, same_kind, from_zero, to-zero, Known, Always, lower, upper, Shown}
use Rattle.chains.specs.Facts.{Contradiction, With, before, fact, Without, always, contradicted, raise, Moved, moved, Shifted, Both, both}
use Rattle.chains.specs.LeastSums.{LeastSums}
use Rattle.chains.specs.History.{Slight}
use Rattle.chains.proofs.Chains.{one, more-contradiction, contradiction-of, zero-node, left-node, right-node}
use Rattle.chains.proofs.Chains.{always-comparable, Sane, shows-every, closed, least-same, least_known}
use Rattle.chains.proofs.Operations.{with-comparable, without-comparable, moved-comparable, both-comparable, new-least}
use Rattle.chains.proofs.Operations.{add-shown, add-contradiction, add-least, anew_sums, anew-least, shift-least, closure-least}
use Rattle.chains.proofs.Join.{join_at, join-least}
use Rattle.chains.proofs.Exact.{Exact, in_rows, high, low}
use Rattle.facts.specs.declared.FactSet.{FactSet}

-- ---- new

pub new-exact : (vars : Variables) → Exact vars new_set (Always vars)
unfolding new_set
new-exact vars = record {
  sane = record { related = λ x y k a. always-comparable vars a; ranged = λ x y k a. a };
  least = λ e. least-same (new-least vars) (λ i j hi hj. sum-new new_set i j (in_rows vars hi) (in_rows vars hj));
  clash = λ e. absurd (false≢true e);
}

-- ---- add

-- As Exact, of facts that need not have among them what is always known (between the move of a shift and its two additions).
record Tight (vars : Variables) (f : FactSet) (K : Known) : Type 0 where
  related : (x y k : ℕ) → K x y k → Comparable vars x y
  least : f.contradiction ≡ false → LeastSums vars (sum_at f) K
  clash : f.contradiction ≡ true → Contradiction K
  small : f.contradiction ≡ false → (i j : ℕ) → Node vars i → Node vars j → sum_at f i j ≤ bias + bias

tight : {vars : Variables} {f : FactSet} {K : Known} → Exact vars f K → Tight vars f K
tight {vars} {f} {K} h = record {
  related = h.sane.related;
  least = h.least;
  clash = h.clash;
  small = λ e i j hi hj. omega (arith, high vars f K h e i j hi hj);
}

-- The sums after a fact that was neither shown nor contradictory: a row that is left as it is has no sum to lower.
lowered-plain : (here row start through : ℕ) → here + bias ≤ row + through → start < 2 ^ 40 → through < 2 ^ 40
    → cond (leb row start) here (min here (concatenated start through)) ≡ min here (start + through - bias)
lowered-plain here row start through t hs ht = go (leb row start) refl
  where
    go : (b : Bool) → leb row start ≡ b → cond b here (min here (concatenated start through)) ≡ min here (start + through - bias)
    go true e = omega (arith, leb-true row start e)
    go false e = rw (concat-plain start through hs ht)

-- A fact that is neither shown nor contradictory: its constant is in range, and so are the new sums.
module _ (vars : Variables) (f : FactSet) (K : Known) (h : Tight vars f K) (e : f.contradiction ≡ false) (x y k : ℕ) (r : Comparable vars x y)
    (hk : k ≤ bias + bias) where
  hx : Node vars x
  hx = left-node vars r

  hy : Node vars y
  hy = right-node vars r

  back-plain : concatenated (sum_at f y x) k ≡ sum_at f y x + k - bias
  back-plain = concat-plain (sum_at f y x) k (omega (arith, h.small e y x hy hx)) (omega arith)

  sum-plain : bias + bias ≤ sum_at f y x + k → (i j : ℕ) → Node vars i → Node vars j
      → sum_at (lowered f x y k) i j ≡ min (sum_at f i j) (sum_at f i x + k + sum_at f y j - (bias + bias))
  sum-plain clear i j hi hj =
      let t : concatenated (sum_at f i x) k ≡ sum_at f i x + k - bias = concat-plain (sum_at f i x) k (omega (arith, h.small e i x hi hx)) (omega arith) in
      let c = closed vars (sum_at f) K h.related (h.least e) in
      sum-lowered f i j (in_rows vars hi) (in_rows vars hj) x y k
      ∙ lowered-plain (sum_at f i j) (sum_at f i y) (concatenated (sum_at f i x) k) (sum_at f y j) (c.triangle i y j hi hy hj)
      (omega (arith, h.small e i x hi hx)) (omega (arith, h.small e y j hy hj))
      ∙ omega (arith, h.small e y i hy hi, c.triangle y i x hy hi hx)

  marked-tight : sum_at f y x + k < bias + bias → Tight vars (marked f) (With K x y k)
  unfolding marked
  marked-tight q = record {
    related = with-comparable vars K h.related x y k r;
    least = λ z. absurd (false≢true (sym z));
    clash = λ z. add-contradiction vars (sum_at f) K h.related (h.least e) x y k r q;
    small = λ z. absurd (false≢true (sym z));
  }

  lowered-tight : bias + bias ≤ sum_at f y x + k → Tight vars (lowered f x y k) (With K x y k)
  unfolding lowered
  lowered-tight q = record {
    related = with-comparable vars K h.related x y k r;
    least = λ z. least-same (add-least vars (sum_at f) K h.related (h.least e) x y k r (h.small e) q) (sum-plain q);
    clash = λ z. absurd (false≢true (sym e ∙ z));
    small = λ z i j hi hj. omega (arith, sum-plain q i j hi hj, h.small e i j hi hj);
  }

added-tight : (vars : Variables) (f : FactSet) (K : Known) → Tight vars f K → (x y k : ℕ) → Comparable vars x y → Tight vars (added f x y k) (With K x y k)
added-tight vars f K h x y k r = go (shown f x y k) refl
  where
    hx : Node vars x
    hx = left-node vars r

    hy : Node vars y
    hy = right-node vars r

    x≤16 : x ≤ 16
    x≤16 = omega (arith, in_rows vars hx)

    y≤16 : y ≤ 16
    y≤16 = omega (arith, in_rows vars hy)

    ends : f.contradiction ≡ false → shown f x y k ≡ false → k ≤ bias + bias → (b : Bool) → ltb (concatenated (sum_at f y x) k) bias ≡ b
        → Tight vars (added f x y k) (With K x y k)
    ends e s hk true q = rw (added-closed f x y k x≤16 y≤16 s (ltb-true _ _ q))
        (marked-tight vars f K h e x y k r hk (omega (arith, back-plain vars f K h e x y k r hk, ltb-true (concatenated (sum_at f y x) k) bias q)))
    ends e s hk false q = rw (added-lowered f x y k x≤16 y≤16 s (ltb-false _ _ q))
        (lowered-tight vars f K h e x y k r hk (omega (arith, back-plain vars f K h e x y k r hk, ltb-false (concatenated (sum_at f y x) k) bias q)))

    go : (b : Bool) → shown f x y k ≡ b → Tight vars (added f x y k) (With K x y k)
    go true s = rw (added-shown f x y k x≤16 y≤16 s) (record {
      related = with-comparable vars K h.related x y k r;
      least = λ e. add-shown vars (sum_at f) K h.related (h.least e) x y k r
          (omega (arith, least-node f x y (in_rows vars hx) (in_rows vars hy), leb-true (least_sum f x y) k (sym (shown-clear f x y k e) ∙ s)));
      clash = λ e. more-contradiction (λ a b c. before) (h.clash e);
      small = h.small;
    })
    go false s =
        let e : f.contradiction ≡ false = not-shown f x y k s in
        ends e s (omega (
          arith,
          least-node f x y (in_rows vars hx) (in_rows vars hy),
          leb-false (least_sum f x y) k (sym (shown-clear f x y k e) ∙ s),
          h.small e x y hx hy,
        ))
        (ltb (concatenated (sum_at f y x) k) bias) refl

pub added-exact : (vars : Variables) (f : FactSet) (K : Known) → Exact vars f K → (x y k : ℕ) → Comparable vars x y → Exact vars (added f x y k) (With K x y k)
added-exact vars f K h x y k r =
    let t = added-tight vars f K (tight h) x y k r in
    record { sane = record { related = t.related; ranged = λ a b c w. before (h.sane.ranged a b c w) }; least = t.least; clash = t.clash }

-- ---- drop and a range

without-sane : (vars : Variables) (x : ℕ) (K : Known) → Sane vars (Without vars x K)
without-sane vars x K = record { related = without-comparable vars K x; ranged = λ a b c w. always w }

without-clash : (vars : Variables) (x : ℕ) (K : Known) → Contradiction K → Contradiction (Without vars x K)
without-clash vars x K c = contradiction-of (one (contradicted {c = bias - 1} c (same_kind vars.some vars.some refl))) (omega arith)

-- x between bottom and top, which are plain numbers.
module _ (vars : Variables) (f : FactSet) (K : Known) (h : Exact vars f K) (x : ℕ) (hx : x < vars.count) where
  x<17 : x < 17
  x<17 = omega (arith, vars.few)

  z : Node vars zero_var
  z = zero-node vars

  -- What is known of the new x.
  abbrev pub Ranged : ℕ → ℕ → Known
  Ranged bottom top = With (With (Without vars x K) x zero_var (bias + top)) zero_var x (bias - bottom)

  module _ (bottom top : ℕ) (l : bottom ≤ top) (m : top ≤ max_value) (e : f.contradiction ≡ false) where
    anew-plain : (i j : ℕ) → Node vars i → Node vars j
        → sum_at (reassigned f x zero_var (bias + top) (bias - bottom)) i j ≡ anew_sums (sum_at f) x zero_var (bias + top) (bias - bottom) i j
    anew-plain i j hi hj =
        sum-reassigned f i j (in_rows vars hi) (in_rows vars hj) x zero_var (bias + top) (bias - bottom) x<17
        ∙ rw (
          concat-plain (bias + top) (sum_at f zero_var j) (omega arith) (omega (arith, high vars f K h e zero_var j z hj)),
          concat-plain (sum_at f i zero_var) (bias - bottom) (omega (arith, high vars f K h e i zero_var hi z)) (omega arith),
        )

    reassigned-least : LeastSums vars (sum_at (reassigned f x zero_var (bias + top) (bias - bottom))) (Ranged bottom top)
    reassigned-least =
        let n : zero_var ≢ x = omega (arith, vars.few) in
        let own : sum_at f zero_var zero_var ≡ bias = (closed vars (sum_at f) K h.sane.related (h.least e)).own zero_var z in
        least-same
        (anew-least vars (sum_at f) K h.sane.related (h.least e) h.sane.ranged x zero_var (bias + top) (bias - bottom) hx (to-zero hx) (from_zero hx) n
        (omega arith) (omega arith) (omega arith) (λ j hj. omega arith) (λ i hi. omega (arith, low vars f K h e i zero_var hi z)))
        anew-plain

  ranged-sane : (bottom top : ℕ) → Sane vars (Ranged bottom top)
  ranged-sane bottom top = record {
    related = with-comparable vars _ (with-comparable vars _ (without-comparable vars K x) x zero_var (bias + top) (to-zero hx)) zero_var x
        (bias - bottom) (from_zero hx);
    ranged = λ a b c w. before (before (always w));
  }

  pub ranged-exact : (bottom top : ℕ) → bottom ≤ top → top ≤ max_value → Exact vars (ranged f x bottom top) (Ranged bottom top)
  unfolding reassigned
  ranged-exact bottom top l m = rw (ranged-variable f x bottom top (omega arith)) (record {
    sane = ranged-sane bottom top;
    least = λ e. reassigned-least bottom top l m e;
    clash = λ e. more-contradiction (λ a b c w. before (before w)) (without-clash vars x K (h.clash e));
  })

  pub dropped-exact : Exact vars (dropped f x) (Without vars x K)
  unfolding reassigned
  dropped-exact = rw (dropped-variable f x (omega arith)) (record {
    sane = without-sane vars x K;
    least = λ e. least_known within (λ a b c w. before (before w)) (reassigned-least 0 max_value (omega arith) (omega arith) e);
    clash = λ e. without-clash vars x K (h.clash e);
  })
    where
      within : (a b c : ℕ) → Ranged 0 max_value a b c → Without vars x K a b c
      within a b c (before (before w)) = w
      within a b c (before fact) = always (upper hx)
      within a b c fact = always (lower hx)

-- ---- shift

module _ (vars : Variables) (f : FactSet) (K : Known) (h : Exact vars f K) (x k : ℕ) (hx : x < vars.count) (hk : Slight k) where
  room : (a b : Bool) (s : ℕ) → s ≤ bias + max_value → bias ≤ s + max_value → (raise b k ≤ s + raise a k) × (s + raise a k ≤ bias + bias + raise b k)
  room true true s u d = omega arith
  room true false s u d = omega (arith, hk.floor, hk.ceiling)
  room false true s u d = omega (arith, hk.floor, hk.ceiling)
  room false false s u d = omega arith

  x-node : Node vars x
  x-node = inr hx

  x<17' : x < 17
  x<17' = omega (arith, vars.few)

  abbrev move_all : FactSet
  move_all = reassigned f x x k (negated k)

  module _ (e : f.contradiction ≡ false) where
    moved_plain : (i j : ℕ) → Node vars i → Node vars j → sum_at move_all i j ≡ sum_at f i j + raise (eqb i x) k - raise (eqb j x) k
    moved_plain i j hi hj = sum-reassigned f i j (in_rows vars hi) (in_rows vars hj) x x k (negated k) x<17' ∙ go (eqb i x) (eqb j x) refl refl
      where
        to : concatenated (sum_at f i x) (negated k) ≡ sum_at f i x + negated k - bias
        to = concat-plain (sum_at f i x) (negated k) (omega (arith, high vars f K h e i x hi x-node)) (omega arith)

        from : concatenated k (sum_at f x j) ≡ k + sum_at f x j - bias
        from = concat-plain k (sum_at f x j) (omega (arith, hk.ceiling)) (omega (arith, high vars f K h e x j x-node hj))

        go : (a b : Bool) → eqb i x ≡ a → eqb j x ≡ b
            → anew_at (sum_at f i j) (concatenated k (sum_at f x j)) (concatenated (sum_at f i x) (negated k)) a b ≡ sum_at f i j + raise a k - raise b k
        go true true p q =
            let s : sum_at f i j ≡ sum_at f x x = ap (λ (n : ℕ). sum_at f n j) (eqb-true i x p) ∙ ap (λ (n : ℕ). sum_at f x n) (eqb-true j x q) in
            omega (arith, (closed vars (sum_at f) K h.sane.related (h.least e)).own x x-node)
        go true false p q = let s : sum_at f i j ≡ sum_at f x j = ap (λ (n : ℕ). sum_at f n j) (eqb-true i x p) in omega (arith, from)
        go false true p q = let s : sum_at f i j ≡ sum_at f i x = ap (λ (n : ℕ). sum_at f i n) (eqb-true j x q) in omega (arith, to, hk.ceiling)
        go false false p q = omega arith

    fits : (i j : ℕ) → Node vars i → Node vars j
        → (raise (eqb j x) k ≤ sum_at f i j + raise (eqb i x) k) × (sum_at f i j + raise (eqb i x) k ≤ bias + bias + raise (eqb j x) k)
    fits i j hi hj = room (eqb i x) (eqb j x) (sum_at f i j) (high vars f K h e i j hi hj) (low vars f K h e i j hi hj)

  moved-tight : Tight vars move_all (Moved vars (λ i. raise (eqb i x) k) K)
  unfolding reassigned
  moved-tight = record {
    related = moved-comparable vars K (λ i. raise (eqb i x) k);
    least = λ e. least-same (shift-least vars (sum_at f) K h.sane.related (h.least e) (λ i. raise (eqb i x) k)
        (λ i j hi hj. (fits e i j hi hj).0)) (moved_plain e);
    clash = λ e.
        let s : Shown K x x (bias - 1) = shows-every vars K h.sane (h.clash e) x x (bias - 1) x-node x-node in
        contradiction-of (one (moved {d = bias - 1} (same_kind hx hx refl) s refl)) (omega arith);
    small = λ e i j hi hj. omega (arith, moved_plain e i j hi hj, (fits e i j hi hj).1);
  }

  -- What is always known of the other variables is among the shown facts.
  shifted-ranged : (a b c : ℕ) → Always vars a b c → Shifted vars x k K a b c
  shifted-ranged a b c (lower {v = v} l) = go (ℕ_discrete v x)
    where
      go : Dec (v ≡ x) → Shifted vars x k K zero_var v bias
      go (yes e) = rw e (before fact)
      go (no n) = let m : zero_var ≢ x = omega (arith, vars.few) in
          before (before (moved {d = bias} (from_zero l) (one (h.sane.ranged _ _ _ (lower l))) (rw (ne_eqb v x n, ne_eqb zero_var x m))))
  shifted-ranged a b c (upper {v = v} l) = go (ℕ_discrete v x)
    where
      go : Dec (v ≡ x) → Shifted vars x k K v zero_var (bias + max_value)
      go (yes e) = rw e fact
      go (no n) = let m : zero_var ≢ x = omega (arith, vars.few) in
          before (before (moved {d = bias + max_value} (to-zero l) (one (h.sane.ranged _ _ _ (upper l))) (rw (ne_eqb v x n, ne_eqb zero_var x m))))

  pub shifted-exact : Exact vars (shifted f x k) (Shifted vars x k K)
  shifted-exact =
      let t = added-tight vars _ _ (added-tight vars _ _ moved-tight zero_var x bias (from_zero hx)) x zero_var (bias + max_value) (to-zero hx) in
      rw (shifted-variable f x k (omega (arith, vars.few)))
      (record { sane = record { related = t.related; ranged = shifted-ranged }; least = t.least; clash = t.clash })

-- ---- join

join-plain : (b : Bool) (p q to₁ to₂ from₁ from₂ : ℕ) → max to₁ to₂ < 2 ^ 40 → max from₁ from₂ < 2 ^ 40
    → joined_sum b p q to₁ to₂ from₁ from₂ ≡ join_at b (max p q) (max to₁ to₂) (max from₁ from₂)
unfolding joined_sum
join-plain true p q to₁ to₂ from₁ from₂ ht hf = refl
join-plain false p q to₁ to₂ from₁ from₂ ht hf = concat-plain (max to₁ to₂) (max from₁ from₂) ht hf

pub joined-exact : (vars : Variables) (f g : FactSet) (K L : Known) → Exact vars f K → Exact vars g L → Exact vars (joined vars.pointer f g) (Both vars K L)
joined-exact vars f g K L hf hg = go f.contradiction refl g.contradiction refl
  where
    sane : Sane vars (Both vars K L)
    sane = record {
      related = both-comparable vars K L;
      ranged = λ a b c w. both (always-comparable vars w) (one (hf.sane.ranged a b c w)) (one (hg.sane.ranged a b c w));
    }

    left : (a b c : ℕ) → Both vars K L a b c → Shown K a b c
    left a b c (both r s t) = s

    right : (a b c : ℕ) → Both vars K L a b c → Shown L a b c
    right a b c (both r s t) = t

    every-left : f.contradiction ≡ true → (a b c : ℕ) → Comparable vars a b → Shown K a b c
    every-left e a b c r = shows-every vars K hf.sane (hf.clash e) a b c (left-node vars r) (right-node vars r)

    every-right : g.contradiction ≡ true → (a b c : ℕ) → Comparable vars a b → Shown L a b c
    every-right e a b c r = shows-every vars L hg.sane (hg.clash e) a b c (left-node vars r) (right-node vars r)

    go : (b : Bool) → f.contradiction ≡ b → (c : Bool) → g.contradiction ≡ c → Exact vars (joined vars.pointer f g) (Both vars K L)
    go true e c d = rw (joined-first vars.pointer f g e) (record {
      sane = sane;
      least = λ z. closure-least vars (sum_at g) L hg.sane.related (hg.least z) (Both vars K L) (both-comparable vars K L) right
          (λ i j r. both r (every-left e i j (sum_at g i j) r) ((hg.least z).attained i j (left-node vars r) (right-node vars r)));
      clash = λ z.
          let r : Comparable vars 0 0 = same_kind vars.some vars.some refl in
          contradiction-of (one (both {c = bias - 1} r (every-left e 0 0 (bias - 1) r) (every-right z 0 0 (bias - 1) r))) (omega arith);
    })
    go false e true d = rw (joined-second vars.pointer f g e d) (record {
      sane = sane;
      least = λ z. closure-least vars (sum_at f) K hf.sane.related (hf.least z) (Both vars K L) (both-comparable vars K L) left
          (λ i j r. both r ((hf.least z).attained i j (left-node vars r) (right-node vars r)) (every-right d i j (sum_at f i j) r));
      clash = λ z. absurd (false≢true (sym e ∙ z));
    })
    go false e false d = record {
      sane = sane;
      least = λ z. least-same (join-least vars (sum_at f) (sum_at g) K L hf.sane.related hg.sane.related (hf.least e) (hg.least d)) plain;
      clash = λ z. absurd (false≢true (sym (ap (λ (s : FactSet). s.contradiction) (joined-both vars.pointer f g e d)) ∙ z));
    }
      where
        z₀ : Node vars zero_var
        z₀ = zero-node vars

        plain : (i j : ℕ) → Node vars i → Node vars j → sum_at (joined vars.pointer f g) i j
            ≡ join_at (related vars.pointer i j) (max (sum_at f i j) (sum_at g i j)) (max (sum_at f i zero_var) (sum_at g i zero_var))
            (max (sum_at f zero_var j) (sum_at g zero_var j))
        plain i j hi hj = sum-joined f i j (in_rows vars hi) (in_rows vars hj) g vars.pointer e d
            ∙ join-plain (related vars.pointer i j) (sum_at f i j) (sum_at g i j) (sum_at f i zero_var) (sum_at g i zero_var)
            (sum_at f zero_var j) (sum_at g zero_var j)
            (omega (arith, high vars f K hf e i zero_var hi z₀, high vars g L hg d i zero_var hi z₀))
            (omega (arith, high vars f K hf e zero_var j z₀ hj, high vars g L hg d zero_var j z₀ hj))
