-- The least sums after each operation, for any matrix of sums.
use Rattle.std.specs.Prelude.{ℕ, ◌+◌, ◌-◌, ◌≤◌, ◌<◌, min, ◌≡◌, refl, ◌≢◌, ◌⊎◌, Bool, true, false, cond, leb, eqb}
use Rattle.std.proofs.Common.{sym, ap, ◌∙◌, inl, inr, arith, leb-true, leb-false, eqb-true, eq-eqb, ne_eqb}
use Rattle.std.proofs.Math.Decide.{ℕ_discrete}
use Rattle.std.proofs.lemmas.Bool.{eqb-false}
use Rattle.sums.specs.Numbers.{bias, max_value, zero_var}
use Rattle.facts.specs.Store.{new_sum}
use Rattle.facts.specs.StoreLaws.{anew_at}
use Rattle.chains.specs.Facts.{Variables, Node, Comparable, from_zero, to-zero, Known, Always, lower, upper, ChainWithin, Shown}
use Rattle.chains.specs.Facts.{Contradiction, With, before, fact, Without, kept, always, contradicted, Both, both, Moved, moved}
use Rattle.chains.specs.LeastSums.{LeastSums}
use Rattle.chains.proofs.Chains.{append, weaken, one, none, more-shown, contradiction-of, Pair, comparable, zeros, mixed, pair, zero-node}
use Rattle.chains.proofs.Chains.{left-node, right-node, always-comparable, Closed, lowest-of, at_most, closed, through-zero, no-contradiction}

-- ---- each operation keeps to comparable pairs

module _ (vars : Variables) (K : Known) where
  pub with-comparable : ((x y k : ℕ) → K x y k → Comparable vars x y) → (x y k : ℕ) → Comparable vars x y → (a b c : ℕ) → With K x y k a b c
      → Comparable vars a b
  with-comparable related x y k r a b c (before f) = related a b c f
  with-comparable related x y k r a b c fact = r

  pub without-comparable : (x a b c : ℕ) → Without vars x K a b c → Comparable vars a b
  without-comparable x a b c (kept m n r s) = r
  without-comparable x a b c (always r) = always-comparable vars r
  without-comparable x a b c (contradicted z r) = r

  pub moved-comparable : (by : ℕ → ℕ) (a b c : ℕ) → Moved vars by K a b c → Comparable vars a b
  moved-comparable by a b c (moved r s e) = r

  pub both-comparable : (L : Known) (a b c : ℕ) → Both vars K L a b c → Comparable vars a b
  both-comparable L a b c (both r s t) = r

-- ---- least sums where the sum of each comparable pair is itself a known fact

module _ (vars : Variables) (D : ℕ → ℕ → ℕ) (K : Known) (related : (x y k : ℕ) → K x y k → Comparable vars x y) where
  pub least-of-facts : Closed vars D → ((x y k : ℕ) → K x y k → D x y ≤ k) → ((x y : ℕ) → Comparable vars x y → Shown K x y (D x y))
      → ((x y : ℕ) → x < vars.count → y < vars.count → vars.pointer x ≢ vars.pointer y → D x zero_var + D zero_var y ≤ D x y + bias) → LeastSums vars D K
  least-of-facts c cover each across =
      record { attained = λ x y hx hy. go x y hx hy (pair vars x y hx hy); lowest = λ hx hy r. lowest-of vars D K related c cover hx hy r }
    where
      go : (x y : ℕ) → Node vars x → Node vars y → Pair vars x y → Shown K x y (D x y)
      go x y hx hy (comparable r) = each x y r
      go x y hx hy (zeros a b) = rw (a, b) (weaken (none zero_var) (omega (arith, c.own zero_var (zero-node vars))))
      go x y hx hy (mixed a b n) = append (each x zero_var (to-zero a)) (each zero_var y (from_zero b)) (omega (arith, across x y a b n))

-- ---- new

module _ (vars : Variables) where
  new-low : (a b : Bool) → bias ≤ cond a bias (cond b bias (bias + max_value))
  new-low true b = omega arith
  new-low false true = omega arith
  new-low false false = omega arith

  new-high : (a b : Bool) → cond a bias (cond b bias (bias + max_value)) ≤ bias + max_value
  new-high true b = omega arith
  new-high false true = omega arith
  new-high false false = omega arith

  new-from-zero : (y : ℕ) → new_sum zero_var y ≡ bias
  new-from-zero y = go (eqb zero_var y)
    where
      go : (b : Bool) → cond b bias bias ≡ bias
      go true = refl
      go false = refl

  new_apart : (x y : ℕ) → x < vars.count → x ≢ y → new_sum x y ≡ bias + max_value
  new_apart x y h n = let n₂ : x ≢ zero_var = omega arith in rw (ne_eqb x y n, ne_eqb x zero_var n₂)

  new-closed : Closed vars new_sum
  new-closed = record { own = λ x hx. rw (eq-eqb x x refl); triangle = λ x m y hx hm hy. go x m y hx (ℕ_discrete x m) }
    where
      go : (x m y : ℕ) → (x ≡ zero_var) ⊎ (x < vars.count) → Dec (x ≡ m) → new_sum x y + bias ≤ new_sum x m + new_sum m y
      go x m y (inl e) d = let h : new_sum x y ≡ bias = ap (λ (z : ℕ). new_sum z y) e ∙ new-from-zero y in
          omega (arith, new-low (eqb x m) (eqb x zero_var), new-low (eqb m y) (eqb m zero_var))
      go x m y (inr h) (yes e) = let q : new_sum x y ≡ new_sum m y = ap (λ (z : ℕ). new_sum z y) e in omega (arith, new-low (eqb x m) (eqb x zero_var))
      go x m y (inr h) (no n) = omega (arith, new_apart x m h n, new-low (eqb m y) (eqb m zero_var), new-high (eqb x y) (eqb x zero_var))

  pub new-least : LeastSums vars new_sum (Always vars)
  new-least = record {
    attained = λ x y hx hy. go x y hx hy (ℕ_discrete x y);
    lowest = λ hx hy r. lowest-of vars new_sum (Always vars) (λ x y k a. always-comparable vars a) new-closed cover hx hy r;
  }
    where
      far : (x : ℕ) → x < vars.count → new_sum x zero_var ≡ bias + max_value
      far x h = let n : x ≢ zero_var = omega arith in new_apart x zero_var h n

      cover : (x y k : ℕ) → Always vars x y k → new_sum x y ≤ k
      cover x y k (lower {v = v} h) = omega (arith, new-from-zero v)
      cover x y k (upper {v = v} h) = omega (arith, far v h)

      go : (x y : ℕ) → (x ≡ zero_var) ⊎ (x < vars.count) → (y ≡ zero_var) ⊎ (y < vars.count) → Dec (x ≡ y) → Shown (Always vars) x y (new_sum x y)
      go x y hx hy (yes e) = rw e (weaken (none y) (omega (arith, new-closed.own y hy)))
      go x y (inl a) (inl b) (no n) = absurd (n (a ∙ sym b))
      go x y (inl a) (inr b) (no n) = rw a (weaken (one (lower b)) (omega (arith, new-from-zero y)))
      go x y (inr a) (inl b) (no n) = rw b (weaken (one (upper a)) (omega (arith, far x a)))
      go x y (inr a) (inr b) (no n) = append (one (upper a)) (one (lower b)) (omega (arith, new_apart x y a n))

-- ---- a variable anew: drop, a range

-- The sums after x was put between y - down and y + up.
abbrev pub anew_sums : (ℕ → ℕ → ℕ) → ℕ → ℕ → ℕ → ℕ → ℕ → ℕ → ℕ
anew_sums D x y up down i j = anew_at (D i j) (up + D y j - bias) (D i y + down - bias) (eqb i x) (eqb j x)

module _ (vars : Variables) (D : ℕ → ℕ → ℕ) (K : Known) (related : (x y k : ℕ) → K x y k → Comparable vars x y) (l : LeastSums vars D K) where
  C : Closed vars D
  C = closed vars D K related l

  -- ---- add
  module _ (x y k : ℕ) (r : Comparable vars x y) where
    hx : Node vars x
    hx = left-node vars r

    hy : Node vars y
    hy = right-node vars r

    old : (a b c : ℕ) → K a b c → D a b ≤ c
    old a b c f = at_most vars D K related l (left-node vars (related _ _ _ f)) (right-node vars (related _ _ _ f)) (one f)

    -- The fact was shown.
    pub add-shown : D x y ≤ k → LeastSums vars D (With K x y k)
    add-shown h = record {
      attained = λ i j hi hj. more-shown (λ a b c. before) (l.attained i j hi hj);
      lowest = λ hi hj s. lowest-of vars D (With K x y k) (with-comparable vars K related x y k r) C cover hi hj s;
    }
      where
        cover : (a b c : ℕ) → With K x y k a b c → D a b ≤ c
        cover a b c (before f) = old a b c f
        cover a b c fact = h

    -- The fact and a way back sum to less than 0.
    pub add-contradiction : D y x + k < bias + bias → Contradiction (With K x y k)
    add-contradiction h =
        let back : Shown (With K x y k) y x (D y x) = more-shown (λ a b c. before) (l.attained y x hy hx) in
        let round : ChainWithin (With K x y k) x x (k + D y x) (bias + bias) = append (one fact) back (omega arith) in
        contradiction-of round (omega arith)

    -- Neither.
    pub add-least : ((i j : ℕ) → Node vars i → Node vars j → D i j ≤ bias + bias) → bias + bias ≤ D y x + k
        → LeastSums vars (λ i j. min (D i j) (D i x + k + D y j - (bias + bias))) (With K x y k)
    add-least small clear = record {
      attained = reached;
      lowest = λ hi hj s. lowest-of vars N (With K x y k) (with-comparable vars K related x y k r) closed_n cover hi hj s;
    }
      where
        N : ℕ → ℕ → ℕ
        N i j = min (D i j) (D i x + k + D y j - (bias + bias))

        -- the new sum is not truncated
        large : (i j : ℕ) → Node vars i → Node vars j → bias + bias ≤ D i x + k + D y j
        large i j hi hj = omega (arith, small j i hj hi, C.triangle y j i hy hj hi, C.triangle y i x hy hi hx)

        reached : (i j : ℕ) → Node vars i → Node vars j → Shown (With K x y k) i j (N i j)
        reached i j hi hj = go (leb (D i j) (D i x + k + D y j - (bias + bias))) refl
          where
            go : (b : Bool) → leb (D i j) (D i x + k + D y j - (bias + bias)) ≡ b → Shown (With K x y k) i j (N i j)
            go true e = weaken (more-shown (λ a b c. before) (l.attained i j hi hj)) (omega (arith, leb-true (D i j) (D i x + k + D y j - (bias + bias)) e))
            go false e =
                let there : Shown (With K x y k) i x (D i x) = more-shown (λ a b c. before) (l.attained i x hi hx) in
                let back : Shown (With K x y k) y j (D y j) = more-shown (λ a b c. before) (l.attained y j hy hj) in
                let on : ChainWithin (With K x y k) i y (D i x + k) (bias + bias) = append there (one fact) (omega arith) in
                append on back (omega (arith, leb-false (D i j) (D i x + k + D y j - (bias + bias)) e, large i j hi hj))

        closed_n : Closed vars N
        closed_n = record {
          own = λ i hi. omega (arith, C.own i hi, C.triangle y i x hy hi hx);
          triangle = λ i m j hi hm hj. omega (
            arith,
            large i j hi hj,
            large i m hi hm,
            large m j hm hj,
            C.triangle i m j hi hm hj,
            C.triangle i m x hi hm hx,
            C.triangle y m j hy hm hj,
            C.triangle y m x hy hm hx,
          );
        }

        cover : (a b c : ℕ) → With K x y k a b c → N a b ≤ c
        cover a b c (before f) = omega (arith, old a b c f)
        cover a b c fact = omega (arith, C.own x hx, C.own y hy)

  -- ---- a variable anew
  module _ (ranged : (x y k : ℕ) → Always vars x y k → K x y k) (x y up down : ℕ) (x-variable : x < vars.count) (r : Comparable vars x y)
      (r⁻¹ : Comparable vars y x) (apart : y ≢ x) where
    -- What is known afterwards.
    abbrev pub Anew : Known
    Anew = With (With (Without vars x K) x y up) y x down

    y-node : Node vars y
    y-node = right-node vars r

    kept-known : (a b c : ℕ) → Without vars x K a b c → Anew a b c
    kept-known a b c f = before (before f)

    -- A fact without x is shown at its sum.
    kept-shown : (i j : ℕ) → i ≢ x → j ≢ x → Node vars i → Node vars j → Shown Anew i j (D i j)
    kept-shown i j ni nj hi hj = more-shown kept-known (go (pair vars i j hi hj))
      where
        nz : zero_var ≢ x
        nz = omega (arith, vars.few)

        go : Pair vars i j → Shown (Without vars x K) i j (D i j)
        go (comparable s) = one (kept ni nj s (l.attained i j hi hj))
        go (zeros a b) = rw (a, b) (weaken (none zero_var) (omega (arith, C.own zero_var (zero-node vars))))
        go (mixed a b n) =
            append (one (kept ni nz (to-zero a) (l.attained i zero_var hi (zero-node vars))))
            (one (kept nz nj (from_zero b) (l.attained zero_var j (zero-node vars) hj)))
            (omega (arith, through-zero vars D K related l i j a b n))

    -- x is in range, and the two facts do not contradict; no sum is truncated.
    pub anew-least : D y zero_var + up ≤ bias + max_value + bias → D zero_var y + down ≤ bias + bias → bias + bias ≤ up + down
        → ((j : ℕ) → Node vars j → bias ≤ up + D y j) → ((i : ℕ) → Node vars i → bias ≤ D i y + down) → LeastSums vars (anew_sums D x y up down) Anew
    anew-least high low apart_by room₁ room₂ =
        record {
          attained = λ i j hi hj. reached i j hi hj (eqb i x) (eqb j x) refl refl;
          lowest = λ hi hj s. lowest-of vars E Anew comparable-all (record { own = own; triangle = triangle }) cover hi hj s;
        }
      where
        E : ℕ → ℕ → ℕ
        E = anew_sums D x y up down

        comparable-all : (a b c : ℕ) → Anew a b c → Comparable vars a b
        comparable-all = with-comparable vars (With (Without vars x K) x y up)
            (with-comparable vars (Without vars x K) (without-comparable vars K x) x y up r) y x down r⁻¹

        not-x : eqb y x ≡ false
        not-x = ne_eqb y x apart

        nz : eqb zero_var x ≡ false
        nz = let n : zero_var ≢ x = omega (arith, vars.few) in ne_eqb zero_var x n

        own : (i : ℕ) → Node vars i → E i i ≡ bias
        own i hi = go (eqb i x)
          where
            go : (b : Bool) → anew_at (D i i) (up + D y i - bias) (D i y + down - bias) b b ≡ bias
            go true = refl
            go false = C.own i hi

        triangle : (i m j : ℕ) → Node vars i → Node vars m → Node vars j → E i j + bias ≤ E i m + E m j
        triangle i m j hi hm hj = go (eqb i x) (eqb m x) (eqb j x)
          where
            go : (a b c : Bool) → anew_at (D i j) (up + D y j - bias) (D i y + down - bias) a c + bias
                ≤ anew_at (D i m) (up + D y m - bias) (D i y + down - bias) a b + anew_at (D m j) (up + D y j - bias) (D m y + down - bias) b c
            go true true true = omega arith
            go true true false = omega arith
            go true false true = omega (arith, C.triangle y m y y-node hm y-node, C.own y y-node, room₁ m hm, room₂ m hm)
            go true false false = omega (arith, C.triangle y m j y-node hm hj, room₁ m hm, room₁ j hj)
            go false true true = omega arith
            go false true false = omega (arith, C.triangle i y j hi y-node hj, room₂ i hi, room₁ j hj)
            go false false true = omega (arith, C.triangle i m y hi hm y-node, room₂ i hi, room₂ m hm)
            go false false false = C.triangle i m j hi hm hj

        in-range : (a b c : ℕ) → Always vars a b c → E a b ≤ c
        in-range a b c (lower {v = v} h) = rw nz (go (eqb v x))
          where
            go : (e : Bool) → anew_at (D zero_var v) (up + D y v - bias) (D zero_var y + down - bias) false e ≤ bias
            go true = omega (arith, low)
            go false = let hv : Node vars v = search (inl, inr) in at_most vars D K related l (zero-node vars) hv (one (ranged _ _ _ (lower h)))
        in-range a b c (upper {v = v} h) = rw nz (go (eqb v x))
          where
            go : (e : Bool) → anew_at (D v zero_var) (up + D y zero_var - bias) (D v y + down - bias) e false ≤ bias + max_value
            go true = omega (arith, high)
            go false = let hv : Node vars v = search (inl, inr) in at_most vars D K related l hv (zero-node vars) (one (ranged _ _ _ (upper h)))

        cover : (a b c : ℕ) → Anew a b c → E a b ≤ c
        cover a b c (before (before (kept m n s t))) = rw (ne_eqb a x m, ne_eqb b x n) (at_most vars D K related l (left-node vars s) (right-node vars s) t)
        cover a b c (before (before (always f))) = in-range a b c f
        cover a b c (before (before (contradicted z s))) = absurd (no-contradiction vars D K related l z)
        cover a b c (before fact) = rw (eq-eqb x x refl, not-x) (omega (arith, C.own y y-node))
        cover a b c fact = rw (eq-eqb x x refl, not-x) (omega (arith, C.own y y-node))

        reached : (i j : ℕ) → Node vars i → Node vars j → (a b : Bool) → eqb i x ≡ a → eqb j x ≡ b
            → Shown Anew i j (anew_at (D i j) (up + D y j - bias) (D i y + down - bias) a b)
        reached i j hi hj true true p q = rw (eqb-true i x p, eqb-true j x q) (none x)
        reached i j hi hj true false p q =
            rw (eqb-true i x p) (append (one (before fact)) (kept-shown y j apart (eqb-false j x q) y-node hj) (omega (arith, room₁ j hj)))
        reached i j hi hj false true p q =
            rw (eqb-true j x q) (append (kept-shown i y (eqb-false i x p) apart hi y-node) (one fact) (omega (arith, room₂ i hi)))
        reached i j hi hj false false p q = kept-shown i j (eqb-false i x p) (eqb-false j x q) hi hj

  -- ---- shift: no sum falls below what the bias allows
  pub shift-least : (by : ℕ → ℕ) → ((i j : ℕ) → Node vars i → Node vars j → by j ≤ D i j + by i) → LeastSums vars (λ i j. D i j + by i - by j) (Moved vars by K)
  shift-least by room = least-of-facts vars E (Moved vars by K) (moved-comparable vars K by) (record { own = own; triangle = triangle }) cover each across
    where
      E : ℕ → ℕ → ℕ
      E i j = D i j + by i - by j

      own : (i : ℕ) → Node vars i → E i i ≡ bias
      own i hi = omega (arith, C.own i hi)

      triangle : (i m j : ℕ) → Node vars i → Node vars m → Node vars j → E i j + bias ≤ E i m + E m j
      triangle i m j hi hm hj = omega (arith, C.triangle i m j hi hm hj, room i j hi hj, room i m hi hm, room m j hm hj)

      cover : (a b c : ℕ) → Moved vars by K a b c → E a b ≤ c
      cover a b c (moved r s e) = omega (arith, at_most vars D K related l (left-node vars r) (right-node vars r) s)

      each : (i j : ℕ) → Comparable vars i j → Shown (Moved vars by K) i j (E i j)
      each i j r =
          let hi = left-node vars r in let hj = right-node vars r in
          one (moved {d = E i j} r (l.attained i j hi hj) (omega (arith, room i j hi hj)))

      across : (i j : ℕ) → i < vars.count → j < vars.count → vars.pointer i ≢ vars.pointer j → E i zero_var + E zero_var j ≤ E i j + bias
      across i j hi hj n =
          let h : Node vars i = search (inl, inr) in let h' : Node vars j = search (inl, inr) in
          omega (arith, through-zero vars D K related l i j hi hj n, room i j h h', room i zero_var h (zero-node vars), room zero_var j (zero-node vars) h')

  -- ---- a join with contradictory facts: other facts that show the same
  pub closure-least : (L : Known) → ((a b c : ℕ) → L a b c → Comparable vars a b) → ((a b c : ℕ) → L a b c → Shown K a b c)
      → ((i j : ℕ) → Comparable vars i j → L i j (D i j)) → LeastSums vars D L
  closure-least L relatedL cover each = least-of-facts vars D L relatedL C
      (λ a b c f. at_most vars D K related l (left-node vars (relatedL a b c f)) (right-node vars (relatedL a b c f)) (cover a b c f))
      (λ i j r. one (each i j r)) (λ i j hi hj n. omega (arith, through-zero vars D K related l i j hi hj n))
