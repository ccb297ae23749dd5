-- Laws of chains: how they are put together, that contradictory facts show every fact, and what least sums are.
use Rattle.std.specs.Prelude.{ℕ, zero, suc, ◌+◌, ◌≤◌, ◌<◌, ◌*◌, ◌≡◌, refl, ◌≢◌, ◌⊎◌, Bool, true, false}
use Rattle.std.proofs.Common.{◌∙◌, inl, inr, ⊎_elim, arith}
use Rattle.sums.specs.Numbers.{bias, max_value, zero_var}
use Rattle.sums.specs.Scale.{scale-sums}
use Rattle.chains.specs.Facts.{Variables, Node, Comparable, same_kind, from_zero, to-zero, Known, Always}
use Rattle.chains.specs.Facts.{lower, upper, Chain, empty, link, ChainWithin, Shown, Contradiction, EndShown}
use Rattle.chains.specs.LeastSums.{LeastSums}

abbrev pub Includes : Known → Known → Type 0
Includes K L = (a b c : ℕ) → K a b c → L a b c

-- ---- chains put together

after : {K : Known} {x y z up down p m : ℕ} → Chain K x y up down → ChainWithin K y z p m → ChainWithin K x z (up + p) (down + m)
after empty b = record { up = b.up; down = b.down; chain = b.chain; within = omega arith }
after (link {k = k} f r) b =
    let s = after r b in
    record { up = k + s.up; down = bias + s.down; chain = link f s.chain; within = omega arith }

pub append : {K : Known} {x y z p m q n r s : ℕ} → ChainWithin K x y p m → ChainWithin K y z q n → p + q + s ≤ r + m + n → ChainWithin K x z r s
append b d h =
    let e = after b.chain d in
    record { up = e.up; down = e.down; chain = e.chain; within = omega arith }

pub weaken : {K : Known} {x y p m r s : ℕ} → ChainWithin K x y p m → p + s ≤ r + m → ChainWithin K x y r s
weaken b h = record { up = b.up; down = b.down; chain = b.chain; within = omega arith }

pub one : {K : Known} {x y k : ℕ} → K x y k → Shown K x y k
one {k = k} f = record { up = k + 0; down = bias + 0; chain = link f empty; within = omega arith }

pub none : {K : Known} (x : ℕ) → Shown K x x bias
none x = record { up = 0; down = 0; chain = empty; within = omega arith }

more-chain : {K L : Known} {x y up down : ℕ} → Includes K L → Chain K x y up down → Chain L x y up down
more-chain w empty = empty
more-chain w (link f r) = link (w _ _ _ f) (more-chain w r)

pub more-shown : {K L : Known} {x y p m : ℕ} → Includes K L → ChainWithin K x y p m → ChainWithin L x y p m
more-shown w b = record { up = b.up; down = b.down; chain = more-chain w b.chain; within = b.within }

pub more-contradiction : {K L : Known} → Includes K L → Contradiction K → Contradiction L
more-contradiction w c = record { node = c.node; up = c.up; down = c.down; round = more-chain w c.round; negative = c.negative }

pub contradiction-of : {K : Known} {x p m : ℕ} → ChainWithin K x x p m → p < m → Contradiction K
contradiction-of {x = x} b h = record { node = x; up = b.up; down = b.down; round = b.chain; negative = omega arith }

-- Two chains show an end, the second one's sum multiplied by the size.
pub two-chains : {K : Known} {q n r m p₁ m₁ p₂ m₂ : ℕ} (s k j : ℕ) → ChainWithin K q r p₁ m₁ → ChainWithin K n m p₂ m₂ → p₁ + s * p₂ + k ≤ j + (m₁ + s * m₂)
    → EndShown K s q n k r m j
two-chains {p₂ = p₂} {m₂ = m₂} s k j a b l = record {
  up₁ = a.up;
  down₁ = a.down;
  first = a.chain;
  up₂ = b.up;
  down₂ = b.down;
  second = b.chain;
  within = omega (arith, a.within, scale-sums s b.up m₂ p₂ b.down b.within);
}

-- ---- pairs of nodes

pub same_or_not : (b c : Bool) → (b ≡ c) ⊎ (b ≢ c)
same_or_not true true = inl refl
same_or_not true false = inr (λ e. let z : ◌≡◌ {A = ℕ} 0 1 = cc in omega arith)
same_or_not false true = inr (λ e. let z : ◌≡◌ {A = ℕ} 0 1 = cc in omega arith)
same_or_not false false = inl refl

-- A fact may relate the pair, both are zero, or it is a pointer and an integer.
pub data Pair (vars : Variables) (x y : ℕ) : Type 0 where
  comparable : Comparable vars x y → Pair vars x y
  zeros : x ≡ zero_var → y ≡ zero_var → Pair vars x y
  mixed : x < vars.count → y < vars.count → vars.pointer x ≢ vars.pointer y → Pair vars x y

module _ (vars : Variables) where
  pub pair : (x y : ℕ) → Node vars x → Node vars y → Pair vars x y
  pair x y hx hy = go hx hy (same_or_not (vars.pointer x) (vars.pointer y))
    where
      go : (x ≡ zero_var) ⊎ (x < vars.count) → (y ≡ zero_var) ⊎ (y < vars.count) → (vars.pointer x ≡ vars.pointer y) ⊎ (vars.pointer x ≢ vars.pointer y)
          → Pair vars x y
      go (inl a) (inl b) k = zeros a b
      go (inl a) (inr b) k = rw a (comparable (from_zero b))
      go (inr a) (inl b) k = rw b (comparable (to-zero a))
      go (inr a) (inr b) (inl k) = comparable (same_kind a b k)
      go (inr a) (inr b) (inr k) = mixed a b k

  pub zero-node : Node vars zero_var
  zero-node = inl refl

  pub left-node : {x y : ℕ} → Comparable vars x y → Node vars x
  left-node (same_kind a b e) = inr a
  left-node (from_zero b) = inl refl
  left-node (to-zero a) = inr a

  pub right-node : {x y : ℕ} → Comparable vars x y → Node vars y
  right-node (same_kind a b e) = inr b
  right-node (from_zero b) = inr b
  right-node (to-zero a) = inl refl

  pub always-comparable : {x y k : ℕ} → Always vars x y k → Comparable vars x y
  always-comparable (lower h) = from_zero h
  always-comparable (upper h) = to-zero h

-- What holds of the known facts at every stage: they relate only comparable pairs, and what is always known is among them.
pub record Sane (vars : Variables) (K : Known) : Type 0 where
  pub related : (x y k : ℕ) → K x y k → Comparable vars x y
  pub ranged : (x y k : ℕ) → Always vars x y k → K x y k

-- ---- "Hence contradictory facts show every fact."

module _ (vars : Variables) (K : Known) (s : Sane vars K) where
  to-zero-shown : (x : ℕ) → Node vars x → Shown K x zero_var (bias + max_value)
  to-zero-shown x h = ⊎_elim (λ (e : x ≡ zero_var). rw e (weaken (none zero_var) (omega arith))) (λ (l : x < vars.count). one (s.ranged _ _ _ (upper l))) h

  from-zero-shown : (x : ℕ) → Node vars x → Shown K zero_var x bias
  from-zero-shown x h = ⊎_elim (λ (e : x ≡ zero_var). rw e (none zero_var)) (λ (l : x < vars.count). one (s.ranged _ _ _ (lower l))) h

  -- The round n times over.
  rounds : (c : Contradiction K) (n : ℕ) → ChainWithin K c.node c.node 0 n
  rounds c zero = record { up = 0; down = 0; chain = empty; within = omega arith }
  rounds c (suc n) =
      let b : ChainWithin K c.node c.node c.up c.down = record { up = c.up; down = c.down; chain = c.round; within = omega arith } in
      append b (rounds c n) (omega (arith, c.negative))

  starts : {x y up down : ℕ} → Chain K x y up down → up < down → Node vars x
  starts empty h = absurd (omega arith)
  starts (link k r) h = left-node vars (s.related _ _ _ k)

  -- A chain between any two nodes, as low as wanted.
  pub sinks : Contradiction K → (x y n : ℕ) → Node vars x → Node vars y → ChainWithin K x y 0 n
  sinks c x y n hx hy =
      let hn : Node vars c.node = starts c.round c.negative in
      let there : ChainWithin K x c.node (bias + max_value) bias = append (to-zero-shown x hx) (from-zero-shown c.node hn) (omega arith) in
      let back : ChainWithin K c.node y (bias + max_value) bias = append (to-zero-shown c.node hn) (from-zero-shown y hy) (omega arith) in
      let far : ChainWithin K x c.node 0 (n + max_value) = append there (rounds c (n + max_value + max_value)) (omega arith) in
      append far back (omega arith)

  pub shows-every : Contradiction K → (x y k : ℕ) → Node vars x → Node vars y → Shown K x y k
  shows-every c x y k hx hy = weaken (sinks c x y bias hx hy) (omega arith)

-- ---- least sums

-- Zero from a node to itself, and no way through a third node is less (shortest paths: closed under the triangle).
pub record Closed (vars : Variables) (D : ℕ → ℕ → ℕ) : Type 0 where
  pub own : (x : ℕ) → Node vars x → D x x ≡ bias
  pub triangle : (x m y : ℕ) → Node vars x → Node vars m → Node vars y → D x y + bias ≤ D x m + D m y

module _ (vars : Variables) (D : ℕ → ℕ → ℕ) (K : Known) (related : (x y k : ℕ) → K x y k → Comparable vars x y) where
  -- A closed matrix that no known fact undercuts is no greater than any chain.
  pub lowest-of : Closed vars D → ((x y k : ℕ) → K x y k → D x y ≤ k) → {x y up down : ℕ} → Node vars x → Node vars y → Chain K x y up down
      → D x y + down ≤ up + bias
  lowest-of c cover hx hy empty = omega (arith, c.own _ hx)
  lowest-of c cover hx hy (link f r) =
      let hm = right-node vars (related _ _ _ f) in
      let h = lowest-of c cover hm hy r in
      omega (arith, c.triangle _ _ _ hx hm hy, cover _ _ _ f)

  module _ (l : LeastSums vars D K) where
    pub at_most : {x y k : ℕ} → Node vars x → Node vars y → Shown K x y k → D x y ≤ k
    at_most hx hy s = omega (arith, l.lowest hx hy s.chain)

    pub closed : Closed vars D
    closed = record { own = own; triangle = triangle }
      where
        triangle : (x m y : ℕ) → Node vars x → Node vars m → Node vars y → D x y + bias ≤ D x m + D m y
        triangle x m y hx hm hy =
            let b : ChainWithin K x y (D x m + D m y) (bias + bias) = append (l.attained x m hx hm) (l.attained m y hm hy) (omega arith) in
            omega (arith, l.lowest hx hy b.chain)

        own : (x : ℕ) → Node vars x → D x x ≡ bias
        own x hx = omega (arith, l.lowest hx hx (empty {x = x}), triangle x x x hx hx hx)

    pub no-contradiction : Contradiction K → ⊥
    no-contradiction c = go c.round c.negative
      where
        first : {x y up down : ℕ} → Chain K x y up down → up < down → Node vars x
        first empty h = absurd (omega arith)
        first (link k r) h = left-node vars (related _ _ _ k)

        go : {x up down : ℕ} → Chain K x x up down → up < down → ⊥
        go {x} {up} {down} r h = let hx : Node vars x = first r h in omega (arith, l.lowest hx hx r, closed.own x hx)

    -- A chain between a pointer and an integer goes through zero.
    split-link : {x m y k p q : ℕ} → Comparable vars x m → x < vars.count → y < vars.count → vars.pointer x ≢ vars.pointer y → K x m k → Chain K m y p q
        → (m < vars.count → vars.pointer m ≢ vars.pointer y → D m zero_var + D zero_var y + q ≤ p + (bias + bias))
        → D x zero_var + D zero_var y + (bias + q) ≤ (k + p) + (bias + bias)
    split-link {x} {m} (same_kind a b e) hx hy n f r ih =
        let h : Node vars x = search (inl, inr) in let hm : Node vars m = search (inl, inr) in
        omega (arith, ih b (λ k. n (e ∙ k)), at_most h hm (one f), closed.triangle x m zero_var h hm (zero-node vars))
    split-link (from_zero b) hx hy n f r ih = absurd (omega arith)
    split-link {x} {y = y} (to-zero a) hx hy n f r ih =
        let h : Node vars x = search (inl, inr) in let hy' : Node vars y = search (inl, inr) in
        omega (arith, at_most h (zero-node vars) (one f), l.lowest (zero-node vars) hy' r)

    split : {x y up down : ℕ} → x < vars.count → y < vars.count → vars.pointer x ≢ vars.pointer y → Chain K x y up down
        → D x zero_var + D zero_var y + down ≤ up + (bias + bias)
    split hx hy n empty = absurd (n refl)
    split hx hy n (link f r) = split-link (related _ _ _ f) hx hy n f r (λ a k. split a hy k r)

    pub through-zero : (x y : ℕ) → x < vars.count → y < vars.count → vars.pointer x ≢ vars.pointer y → D x zero_var + D zero_var y ≡ D x y + bias
    through-zero x y hx hy n =
        let h : Node vars x = search (inl, inr) in let hy' : Node vars y = search (inl, inr) in
        let b = l.attained x y h hy' in
        omega (arith, split hx hy n b.chain, closed.triangle x zero_var y h (zero-node vars) hy')

-- The same sums by another matrix.
pub least-same : {vars : Variables} {D E : ℕ → ℕ → ℕ} {K : Known} → LeastSums vars D K → ((x y : ℕ) → Node vars x → Node vars y → E x y ≡ D x y)
    → LeastSums vars E K
least-same l e = record {
  attained = λ x y hx hy. rw (e x y hx hy) (l.attained x y hx hy);
  lowest = λ {x} {y} hx hy r. rw (e x y hx hy) (l.lowest hx hy r);
}

-- The same chains from other facts.
pub least_known : {vars : Variables} {D : ℕ → ℕ → ℕ} {K L : Known} → Includes K L → Includes L K → LeastSums vars D K → LeastSums vars D L
least_known w v l = record { attained = λ x y hx hy. more-shown w (l.attained x y hx hy); lowest = λ hx hy r. l.lowest hx hy (more-chain v r) }
