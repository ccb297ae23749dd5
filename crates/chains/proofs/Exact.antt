-- The promise of the fact store: what a fact set shows is what the chains of its known facts show.
use Rattle.std.specs.Prelude.{ℕ, ◌+◌, ◌^◌, ◌≤◌, ◌<◌, ◌*◌, ◌≡◌, ◌↔◌, Bool, cond, leb}
use Rattle.std.proofs.Math.Path.{refl}
use Rattle.std.proofs.Common.{inl, inr, ⊎_elim, arith}
use Rattle.std.proofs.Math.Bool.{true, false}
use borrow.Author.Tests.{leb-true, le-leb}
use Rattle.sums.specs.Numbers.{bias, max_value, zero_var}
use Rattle.facts.specs.Store.{sum_at, least_sum, shown, end_shown, within_end}
use Rattle.std.proofs.Math.Nat.{mul-zero}
use Rattle.sums.specs.Scale.{scale-sums}
use Rattle.facts.specs.StoreLaws.{least-node, within-plain}
use Rattle.chains.specs.Facts.{Variables, Node, Known, lower, upper, Shown, Contradiction, EndShown}
use Rattle.chains.specs.LeastSums.{LeastSums}
use Rattle.chains.proofs.Chains.{weaken, one, zero-node, Sane, sinks, shows-every, at_most, closed, no-contradiction, two-chains}
use Rattle.facts.specs.declared.FactSet.{FactSet}

-- THE PROMISE. The known facts relate comparable pairs and have what is always known among them; a set without the mark has the least sums of their
-- chains, and one with the mark has facts that contradict.
pub record Exact (vars : Variables) (f : FactSet) (K : Known) : Type 0 where
  pub sane : Sane vars K
  pub least : f.contradiction ≡ false → LeastSums vars (sum_at f) K
  pub clash : f.contradiction ≡ true → Contradiction K

pub in_rows : (vars : Variables) {x : ℕ} → Node vars x → x < 17
in_rows vars (inl e) = omega arith
in_rows vars (inr h) = omega (arith, vars.few)

-- ---- what a fact set shows

module _ (vars : Variables) (f : FactSet) (K : Known) (h : Exact vars f K) where
  -- A fact is shown by the set exactly when a chain shows it.
  pub shown-exact : (x y k : ℕ) → Node vars x → Node vars y → (shown f x y k ≡ true) ↔ Shown K x y k
  unfolding shown
  shown-exact x y k hx hy = go f.contradiction refl
    where
      go : (b : Bool) → f.contradiction ≡ b → (cond b true (leb (least_sum f x y) k) ≡ true) ↔ Shown K x y k
      go true e = ((λ s. shows-every vars K h.sane (h.clash e) x y k hx hy), (λ s. refl))
      go false e =
          let l : LeastSums vars (sum_at f) K = h.least e in
          let q : least_sum f x y ≡ sum_at f x y = least-node f x y (in_rows vars hx) (in_rows vars hy) in (
            (λ s. weaken (l.attained x y hx hy) (omega (arith, leb-true (least_sum f x y) k s))),
            (λ s. le-leb (least_sum f x y) k (omega (arith, at_most vars (sum_at f) K h.sane.related l hx hy s))),
          )

  -- The mark stands exactly when the facts contradict.
  pub contradiction-exact : (f.contradiction ≡ true) ↔ Contradiction K
  contradiction-exact = (h.clash, (λ c. go f.contradiction refl c))
    where
      go : (b : Bool) → f.contradiction ≡ b → Contradiction K → b ≡ true
      go true e c = refl
      go false e c = absurd (no-contradiction vars (sum_at f) K h.sane.related (h.least e) c)

  -- ---- the range of the sums
  module _ (e : f.contradiction ≡ false) where
    abbrev D : ℕ → ℕ → ℕ
    D = sum_at f

    to-zero-high : (x : ℕ) → Node vars x → D x zero_var ≤ bias + max_value
    to-zero-high x hx =
        ⊎_elim (λ (q : x ≡ zero_var). rw q (omega (arith, (closed vars D K h.sane.related (h.least e)).own zero_var (zero-node vars))))
        (λ (l : x < vars.count). at_most vars D K h.sane.related (h.least e) hx (zero-node vars) (one (h.sane.ranged _ _ _ (upper l)))) hx

    from-zero-high : (x : ℕ) → Node vars x → D zero_var x ≤ bias
    from-zero-high x hx =
        ⊎_elim (λ (q : x ≡ zero_var). rw q (omega (arith, (closed vars D K h.sane.related (h.least e)).own zero_var (zero-node vars))))
        (λ (l : x < vars.count). at_most vars D K h.sane.related (h.least e) (zero-node vars) hx (one (h.sane.ranged _ _ _ (lower l)))) hx

    pub high : (x y : ℕ) → Node vars x → Node vars y → D x y ≤ bias + max_value
    high x y hx hy =
        omega (arith, (closed vars D K h.sane.related (h.least e)).triangle x zero_var y hx (zero-node vars) hy, to-zero-high x hx, from-zero-high y hy)

    pub low : (x y : ℕ) → Node vars x → Node vars y → bias ≤ D x y + max_value
    low x y hx hy = omega (
      arith,
      (closed vars D K h.sane.related (h.least e)).triangle x y x hx hy hx,
      (closed vars D K h.sane.related (h.least e)).own x hx,
      high y x hy hx,
    )

  -- An end is shown to be at most another exactly when two chains show it.
  pub end-exact : (s q n k r m j : ℕ) → s ≤ 8 → Node vars q → Node vars n → Node vars r → Node vars m → k < 2 ^ 40 → j < 2 ^ 40
      → (end_shown f s q n k r m j ≡ true) ↔ EndShown K s q n k r m j
  unfolding end_shown
  end-exact s q n k r m j hs hq hn hr hm hk hj = go f.contradiction refl
    where
      go : (b : Bool) → f.contradiction ≡ b → (cond b true (within_end s (least_sum f q r) (least_sum f n m) k j) ≡ true) ↔ EndShown K s q n k r m j
      go true e = (
        (λ t. two-chains s k j (sinks vars K h.sane (h.clash e) q r k hq hr) (sinks vars K h.sane (h.clash e) n m 0 hn hm) (omega (arith, mul-zero s))),
        (λ t. refl),
      )
      go false e =
          let l : LeastSums vars (sum_at f) K = h.least e in
          let s₁ : least_sum f q r ≡ sum_at f q r = least-node f q r (in_rows vars hq) (in_rows vars hr) in
          let s₂ : least_sum f n m ≡ sum_at f n m = least-node f n m (in_rows vars hn) (in_rows vars hm) in
          let u₁ : sum_at f q r ≤ bias + max_value = high e q r hq hr in
          let u₂ : sum_at f n m ≤ bias + max_value = high e n m hn hm in
          rw (s₁, s₂, within-plain s (sum_at f q r) (sum_at f n m) k j hs (omega arith) (omega arith) hk hj) (
            (λ t. two-chains s k j (l.attained q r hq hr) (l.attained n m hn hm)
                (omega (arith, leb-true (sum_at f q r + s * sum_at f n m + k) (j + bias + s * bias) t))),
            (λ t. le-leb (sum_at f q r + s * sum_at f n m + k) (j + bias + s * bias)
                (omega (arith, l.lowest hq hr t.first, scale-sums s (sum_at f n m) t.down₂ t.up₂ bias (l.lowest hn hm t.second), t.within))),
          )
