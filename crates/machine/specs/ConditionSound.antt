-- A condition that holds makes its facts true, and one that fails makes the facts of its negation true.
use Prim.Native.Nat.{ℕ, zero, suc, ◌+◌, ◌-◌, ◌≤◌, ◌<◌}
use Rattle.std.specs.Prelude.{◌≡◌, ◌≢◌, Bool, cond, List, eqb}
use Rattle.std.proofs.Math.Path.{refl, ap}
use Rattle.std.proofs.Common.{◌∙◌, arith}
use Rattle.std.proofs.Math.Bool.{true, false, not}
use borrow.Author.Tests.{leb-true, ltb-true, eqb-true, eqb-false, not-true}
use Rattle.sums.specs.Numbers.{bias}
use Rattle.facts.specs.Store.{shown, added}
use Rattle.chains.proofs.Sound.{InRange, Holds, added-holds}
use Rattle.facts.specs.declared.FactSet.{FactSet}
use Rattle.conditions.specs.Conditions.{relates, negation, negated_of}
use Rattle.conditions.specs.NegationLaws.{negation-decides}
use Rattle.conditions.specs.declared.Condition.{Condition}
use Rattle.rules.specs.Stored.{differs, relation_facts, condition_facts}
use Rattle.rules.specs.FactsTrue.{equated-holds}
use Rattle.machine.specs.Machine.{value, condition_holds}
use Rattle.rules.specs.FactRules as fact_rules

module _ (f : FactSet) (v : ℕ → ℕ) (g : InRange v) (h : Holds f v) where
  differs-holds : (x y k : ℕ) → v x ≢ v y + k → Holds (differs (shown f x y (bias + k)) (shown f y x (bias - k)) f x y k) v
  unfolding fact_rules.differs
  differs-holds x y k n = above (shown f y x (bias - k)) refl
    where
      below : (b : Bool) → shown f x y (bias + k) ≡ b → Holds (cond b (added f x y (bias + k - 1)) f) v
      below true e = added-holds f v g h x y _ (λ a b. omega (arith, h x y (bias + k) a b e, n))
      below false e = h

      lower : FactSet
      lower = cond (shown f x y (bias + k)) (added f x y (bias + k - 1)) f

      above : (b : Bool) → shown f y x (bias - k) ≡ b → Holds (cond b (added lower y x (bias - k - 1)) lower) v
      above true e = added-holds lower v g (below (shown f x y (bias + k)) refl) y x _ (λ a b. omega (arith, h y x (bias - k) a b e, n, g.below x))
      above false e = below (shown f x y (bias + k)) refl

  relation-holds : (r x y k : ℕ) → relates r (v x) (v y + k) ≡ true → Holds (relation_facts r f x y k) v
  unfolding relates fact_rules.relation_facts
  relation-holds zero x y k t = let u : v x < v y + k = ltb-true _ _ t in added-holds f v g h x y _ (λ a b. omega arith)
  relation-holds (suc zero) x y k t = let u : v y + k ≤ v x = leb-true _ _ t in added-holds f v g h y x _ (λ a b. omega arith)
  relation-holds (suc (suc zero)) x y k t = let u : v y + k < v x = ltb-true _ _ t in added-holds f v g h y x _ (λ a b. omega arith)
  relation-holds (suc (suc (suc zero))) x y k t = let u : v x ≤ v y + k = leb-true _ _ t in added-holds f v g h x y _ (λ a b. omega arith)
  relation-holds (suc (suc (suc (suc zero)))) x y k t = let u : v x ≡ v y + k = eqb-true _ _ t in equated-holds f v g h x y _ (omega arith)
  relation-holds (suc (suc (suc (suc (suc r))))) x y k t = differs-holds x y k (eqb-false (v x) (v y + k) (not-true (eqb (v x) (v y + k)) t))

module _ (f : FactSet) (vs : List ℕ) (g : InRange (value vs)) (h : Holds f (value vs)) (c : Condition) where
  pub condition-holds : condition_holds vs c ≡ true → Holds (condition_facts f c) (value vs)
  unfolding condition_holds fact_rules.condition_facts
  condition-holds e = relation-holds f (value vs) g h c.relation c.left c.right c.offset e

  pub negated-holds : c.relation < 6 → condition_holds vs c ≡ false → Holds (condition_facts f (negated_of c)) (value vs)
  unfolding condition_holds fact_rules.condition_facts negated_of
  negated-holds l e =
      relation-holds f (value vs) g h (negation c.relation) c.left c.right c.offset
      (negation-decides c.relation (value vs c.left) (value vs c.right + c.offset) l ∙ ap not e)
