-- The paper's section "Facts": what each kind of statement does to the facts.
use Rattle.std.specs.Prelude.{ℕ, zero, suc, ◌+◌, ◌-◌, Bool, false, ◌&&◌, ◌||◌, cond, List, [], ◌∷◌, eqb}
use Rattle.sums.specs.Numbers.{bias, max_value, zero_var}
use Rattle.conditions.specs.declared.Condition.{Condition}
use Rattle.statements.specs.declared.Simple.{Simple}
use Rattle.statements.specs.declared.Simple.TheVariants.{Literal, AddConstant, Arithmetic, Null, Address}
use Rattle.statements.specs.declared.Simple.TheVariants.{PointerOffset, PointerIndex, Load, Store, Check, Declare}
use Rattle.listed.specs.declared.Entry.{Entry}
use Rattle.rules.specs.FactSets.{FactSets}

-- A number among others.
unfoldable pub among : ℕ → List ℕ → Bool
among v [] = false
among v (x ∷ xs) = eqb v x || among v xs

module _ (S : FactSets) where
  open S use {Facts, added, dropped, ranged, shifted, shown}

  -- x = y + k, with the bias in k: both x <= y + k and y <= x - k.
  unfoldable pub equated : Facts → ℕ → ℕ → ℕ → Facts
  equated f x y k = added (added f x y k) y x (bias + bias - k)

  -- x >= 1
  unfoldable pub positive : Facts → ℕ → Facts
  positive f x = added f zero_var x (bias - 1)

  -- Point 4: "When x != y or x != literal holds, of integers or of pointers, and x <= y is shown there (at a while, after the drop), x <= y - 1 is now a fact,
  -- and the same from the other side": x != y + k, where `below` tells whether x <= y + k is shown, and `above` whether y + k <= x is. So x != 0 gives x >= 1,
  -- since 0 <= x is always known.
  unfoldable pub differs : Bool → Bool → Facts → ℕ → ℕ → ℕ → Facts
  differs below above f x y k =
      let lower = cond below (added f x y (bias + k - 1)) f in
      cond above (added lower y x (bias - k - 1)) lower

  -- "A condition gives its facts (< is <= with one less, == both ways)": left RELATION right + k, by the relation's number.
  unfoldable pub relation_facts : ℕ → Facts → ℕ → ℕ → ℕ → Facts
  relation_facts zero f x y k = added f x y (bias + k - 1)
  relation_facts (suc zero) f x y k = added f y x (bias - k)
  relation_facts (suc (suc zero)) f x y k = added f y x (bias - k - 1)
  relation_facts (suc (suc (suc zero))) f x y k = added f x y (bias + k)
  relation_facts (suc (suc (suc (suc zero)))) f x y k = equated f x y (bias + k)
  relation_facts (suc (suc (suc (suc (suc n))))) f x y k = differs (shown f x y (bias + k)) (shown f y x (bias - k)) f x y k

  unfoldable pub condition_facts : Facts → Condition → Facts
  condition_facts f c = relation_facts c.relation f c.left c.right c.offset

  -- "0 <= y + k <= 4,294,967,295 is shown": 0 <= y + k, and y <= 4,294,967,295 - k; "a plain copy always counts as shown".
  abbrev pub in_range : Facts → ℕ → ℕ → Bool
  in_range f y k = eqb k bias || shown f zero_var y k && shown f y zero_var (bias + max_value + bias - k)

  -- "Kind 2: when 0 <= y + k <= 4,294,967,295 is shown (`in_range`), x equals y + k (for x = y the facts are shifted); otherwise drop x."
  unfoldable pub sum_facts : Bool → Bool → Facts → ℕ → ℕ → ℕ → Facts
  sum_facts fits same f x y k = cond fits (cond same (shifted f x k) (equated (dropped f x) x y k)) (dropped f x)

  -- "Kind 6: p = q + k, shifted for p = q; where k is not 0 also p >= 1."
  unfoldable pub offset_facts : Bool → Bool → Facts → ℕ → ℕ → ℕ → Facts
  offset_facts same plain f p q k =
      let moved = cond same (shifted f p k) (equated (dropped f p) p q k) in
      cond plain moved (positive moved p)

  -- The facts after a statement of kinds 1 to 10, and 14.
  unfoldable pub facts_after : Simple → Facts → Facts
  -- "Kind 1: drop x, then x equals the literal."
  facts_after (Literal x k) f = ranged f x k k
  facts_after (AddConstant x y k) f = sum_facts (in_range f y k) (eqb x y) f x y k
  -- "Kinds 3, 8 and any later kind that sets an integer: drop x."
  facts_after (Arithmetic x y z op) f = dropped f x
  -- "Kind 4: p = 0." As "every assignment drops its target before facts are added".
  facts_after (Null p) f = ranged f p 0 0
  -- "Kind 5: drop p, p >= 1."
  facts_after (Address p o) f = ranged f p 1 max_value
  facts_after (PointerOffset p q k) f = offset_facts (eqb p q) (eqb k bias) f p q k
  -- "Kind 7: drop p, p >= 1."
  facts_after (PointerIndex p q i) f = ranged f p 1 max_value
  facts_after (Load x p i k) f = dropped f x
  facts_after (Store p i k x) f = f
  -- "A condition gives its facts after a dynamic check"
  facts_after (Check c) f = condition_facts f c
  -- Point 2: kind 14 assigns nothing.
  facts_after (Declare p r) f = f

  -- "variables assigned in the body are dropped first": each variable, by its number, that is among the targets.
  unfoldable pub dropped_each : ℕ → (ℕ → Bool) → Facts → Facts
  dropped_each zero lost f = f
  dropped_each (suc n) lost f = cond (lost n) (dropped (dropped_each n lost f) n) (dropped_each n lost f)

  unfoldable pub loop_facts : List ℕ → Facts → Facts
  loop_facts targets f = dropped_each 16 (λ v. among v targets) f

  -- Point 9: "A listed fact counts at the head and after the loop", "all entries of that loop assumed together".
  unfoldable pub entry_facts : List Entry → Facts → Facts
  entry_facts [] f = f
  entry_facts (e ∷ es) f = entry_facts es (added f e.left e.right e.offset)
