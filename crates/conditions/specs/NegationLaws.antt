-- A relation and its negation.
use Rattle.std.specs.Prelude.{ℕ, zero, suc, ◌<◌, ◌≡◌, refl, Bool, true, false, not, leb, ltb, eqb}
use Rattle.std.proofs.Common.{arith, leb-true, leb-false, ltb-true, ltb-false, le-leb, lt-ltb, le-ltb}
use Rattle.std.proofs.lemmas.Bool.{lt-leb}
use Rattle.conditions.specs.Conditions.{relates, negation}

not-below : (a b : ℕ) → leb b a ≡ not (ltb a b)
not-below a b = go (ltb a b) refl
  where
    go : (t : Bool) → ltb a b ≡ t → leb b a ≡ not t
    go true e = lt-leb b a (ltb-true a b e)
    go false e = le-leb b a (ltb-false a b e)

below-not : (a b : ℕ) → ltb b a ≡ not (leb a b)
below-not a b = go (leb a b) refl
  where
    go : (t : Bool) → leb a b ≡ t → ltb b a ≡ not t
    go true e = le-ltb b a (leb-true a b e)
    go false e = lt-ltb b a (leb-false a b e)

not-twice : (t : Bool) → t ≡ not (not t)
not-twice true = refl
not-twice false = refl

-- Point 3: "For any two values exactly one of a relation and its negation holds".
pub negation-decides : (r a b : ℕ) → r < 6 → relates (negation r) a b ≡ not (relates r a b)
unfolding relates negation
negation-decides zero a b l = not-below a b
negation-decides (suc zero) a b l = below-not b a
negation-decides (suc (suc zero)) a b l = not-below b a
negation-decides (suc (suc (suc zero))) a b l = below-not a b
negation-decides (suc (suc (suc (suc zero)))) a b l = refl
negation-decides (suc (suc (suc (suc (suc zero))))) a b l = not-twice (eqb a b)
negation-decides (suc (suc (suc (suc (suc (suc r)))))) a b l = absurd (omega arith)

-- ".. and no verdict or run changes": the values of document 01's table of six.
pub negations : (negation 0 ≡ 1) × (negation 1 ≡ 0) × (negation 2 ≡ 3) × (negation 3 ≡ 2) × (negation 4 ≡ 5) × (negation 5 ≡ 4)
unfolding negation
negations = (refl, refl, refl, refl, refl, refl)
