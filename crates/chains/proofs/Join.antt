-- The least sums of a join, for any two matrices of sums.
use Rattle.std.specs.Prelude.{ℕ, ◌+◌, ◌-◌, ◌≤◌, ◌<◌, max, ◌≡◌, refl, ◌≢◌, ◌⊎◌, Bool, true, false, cond, eqb}
use Rattle.std.proofs.Common.{sym, ◌∙◌, inl, inr, arith, ne_eqb}
use Rattle.sums.specs.Numbers.{bias, zero_var}
use Rattle.facts.specs.Store.{same, related}
use Rattle.chains.specs.Facts.{Variables, Node, Comparable, same_kind, from_zero, to-zero, Known, Shown, Both, both}
use Rattle.chains.specs.LeastSums.{LeastSums}
use Rattle.chains.proofs.Chains.{weaken, one, Pair, comparable, zeros, mixed, pair, same_or_not, zero-node, left-node, right-node, Closed, at_most, closed}
use Rattle.chains.proofs.Operations.{both-comparable, least-of-facts}

-- The greater of the two sums; between a pointer and an integer the greater sums to and from zero.
abbrev pub join_at : Bool → ℕ → ℕ → ℕ → ℕ
join_at true here to from = here
join_at false here to from = to + from - bias

abbrev pub join_sums : (ℕ → Bool) → (ℕ → ℕ → ℕ) → (ℕ → ℕ → ℕ) → ℕ → ℕ → ℕ
join_sums pointer D E i j = join_at (related pointer i j) (max (D i j) (E i j)) (max (D i zero_var) (E i zero_var)) (max (D zero_var j) (E zero_var j))

same_true : (a b : Bool) → a ≡ b → same a b ≡ true
same_true true true e = refl
same_true true false e = sym e
same_true false true e = e
same_true false false e = refl

same_false : (a b : Bool) → a ≢ b → same a b ≡ false
same_false true true n = absurd (n refl)
same_false true false n = refl
same_false false true n = refl
same_false false false n = absurd (n refl)

module _ (vars : Variables) where
  related-to-zero : (i : ℕ) → related vars.pointer i zero_var ≡ true
  related-to-zero i = go (eqb i zero_var)
    where
      go : (b : Bool) → cond b true true ≡ true
      go true = refl
      go false = refl

  related-comparable : {i j : ℕ} → Comparable vars i j → related vars.pointer i j ≡ true
  related-comparable {i} {j} (same_kind a b e) = let m : i ≢ zero_var = omega arith in let n : j ≢ zero_var = omega arith in
      rw (ne_eqb i zero_var m, ne_eqb j zero_var n) (same_true _ _ e)
  related-comparable (from_zero b) = refl
  related-comparable {i} (to-zero a) = related-to-zero i

  related-mixed : (i j : ℕ) → i < vars.count → j < vars.count → vars.pointer i ≢ vars.pointer j → related vars.pointer i j ≡ false
  related-mixed i j hi hj k = let m : i ≢ zero_var = omega arith in let n : j ≢ zero_var = omega arith in
      rw (ne_eqb i zero_var m, ne_eqb j zero_var n) (same_false _ _ k)

  module _ (D E : ℕ → ℕ → ℕ) (K L : Known) (relatedK : (x y k : ℕ) → K x y k → Comparable vars x y) (relatedL : (x y k : ℕ) → L x y k → Comparable vars x y)
      (lk : LeastSums vars D K) (ll : LeastSums vars E L) where
    pub join-least : LeastSums vars (join_sums vars.pointer D E) (Both vars K L)
    join-least = least-of-facts vars J (Both vars K L) (both-comparable vars K L) (record { own = own; triangle = triangle }) cover each across
      where
        J : ℕ → ℕ → ℕ
        J = join_sums vars.pointer D E

        M : ℕ → ℕ → ℕ
        M i j = max (D i j) (E i j)

        CD : Closed vars D
        CD = closed vars D K relatedK lk

        CE : Closed vars E
        CE = closed vars E L relatedL ll

        z : Node vars zero_var
        z = zero-node vars

        tri : (i m j : ℕ) → Node vars i → Node vars m → Node vars j → M i j + bias ≤ M i m + M m j
        tri i m j hi hm hj = omega (arith, CD.triangle i m j hi hm hj, CE.triangle i m j hi hm hj)

        alone : (i : ℕ) → Node vars i → M i i ≡ bias
        alone i hi = omega (arith, CD.own i hi, CE.own i hi)

        plain : (i j : ℕ) → related vars.pointer i j ≡ true → J i j ≡ M i j
        plain i j e = rw e

        round : (i j : ℕ) → i < vars.count → j < vars.count → vars.pointer i ≢ vars.pointer j → J i j + bias ≡ M i zero_var + M zero_var j
        round i j hi hj n =
            let h : Node vars i = search (inl, inr) in let h' : Node vars j = search (inl, inr) in
            rw (related-mixed i j hi hj n) (omega (arith, tri i zero_var j h z h'))

        over : (i j : ℕ) → Node vars i → Node vars j → M i j ≤ J i j
        over i j hi hj = go (related vars.pointer i j)
          where
            go : (b : Bool) → M i j ≤ join_at b (M i j) (M i zero_var) (M zero_var j)
            go true = omega arith
            go false = omega (arith, tri i zero_var j hi z hj)

        own : (i : ℕ) → Node vars i → J i i ≡ bias
        own i hi = go (pair vars i i hi hi)
          where
            go : Pair vars i i → J i i ≡ bias
            go (comparable r) = plain i i (related-comparable r) ∙ alone i hi
            go (zeros a b) = plain i i (rw a refl) ∙ alone i hi
            go (mixed a b n) = absurd (n refl)

        triangle : (i m j : ℕ) → Node vars i → Node vars m → Node vars j → J i j + bias ≤ J i m + J m j
        triangle i m j hi hm hj = go (pair vars i j hi hj) hm (same_or_not (vars.pointer i) (vars.pointer m))
          where
            go : Pair vars i j → (m ≡ zero_var) ⊎ (m < vars.count) → (vars.pointer i ≡ vars.pointer m) ⊎ (vars.pointer i ≢ vars.pointer m)
                → J i j + bias ≤ J i m + J m j
            go (comparable r) u v = omega (arith, plain i j (related-comparable r), tri i m j hi hm hj, over i m hi hm, over m j hm hj)
            go (zeros a b) u v = omega (arith, plain i j (rw a refl), tri i m j hi hm hj, over i m hi hm, over m j hm hj)
            go (mixed a b n) (inl u) v = rw u (omega (arith, round i j a b n, over i zero_var hi z, over zero_var j z hj))
            go (mixed a b n) (inr u) (inl v) = omega (arith, round i j a b n, round m j u b (λ e. n (v ∙ e)), over i m hi hm, tri i m zero_var hi hm z)
            go (mixed a b n) (inr u) (inr v) = omega (arith, round i j a b n, round i m a u v, over m j hm hj, tri zero_var m j z hm hj)

        cover : (a b c : ℕ) → Both vars K L a b c → J a b ≤ c
        cover a b c (both r s t) =
            let ha = left-node vars r in let hb = right-node vars r in
            omega (arith, plain a b (related-comparable r), at_most vars D K relatedK lk ha hb s, at_most vars E L relatedL ll ha hb t)

        each : (i j : ℕ) → Comparable vars i j → Shown (Both vars K L) i j (J i j)
        each i j r =
            let hi = left-node vars r in let hj = right-node vars r in
            rw (related-comparable r) (one (both {c = M i j} r (weaken (lk.attained i j hi hj) (omega arith)) (weaken (ll.attained i j hi hj) (omega arith))))

        across : (i j : ℕ) → i < vars.count → j < vars.count → vars.pointer i ≢ vars.pointer j → J i zero_var + J zero_var j ≤ J i j + bias
        across i j hi hj n = omega (arith, round i j hi hj n, plain i zero_var (related-to-zero i), plain zero_var j refl)
