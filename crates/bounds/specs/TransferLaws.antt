-- Laws of an effect on the bounds of one pointer, as the code meets them.
use Rattle.std.specs.Prelude.{ℕ, ◌<◌, ◌≡◌, refl, List, length}
use Rattle.std.proofs.Common.{sym, ap, ◌∙◌, arith}
use Rattle.rules.specs.BoundsRules.{known}
use Rattle.rules.specs.Stored.{effect_on, bounds_after}
use Rattle.rules.specs.BoundsRules as bounds_rules
use Rattle.rules.specs.BoundsTrue.{known-after}
use Rattle.rules.specs.Ranges.{Short}
use Rattle.rules.specs.declared.Bounds.{Bounds}
use Rattle.rules.specs.declared.Effect.{Effect}
use Rattle.rules.specs.declared.Effect.TheVariants.{Keep, Forget, Shift, Copy, Object}
use Rattle.bounds.specs.StaysLaws.{stored, stored-known}
use Rattle.bounds.specs.Transfer.{source_of, effect_on_one}

pub effect-on-one : (e : Effect) (K : List Bounds) (p : ℕ) → effect_on e K p ≡ effect_on_one e p (known K p) (known K (source_of e))
unfolding bounds_rules.effect_on
effect-on-one Keep K p = refl
effect-on-one (Forget v) K p = refl
effect-on-one (Shift v k) K p = refl
effect-on-one (Copy v q) K p = refl
effect-on-one (Object v z n) K p = refl

pub effect-on-read : (e : Effect) (K : List Bounds) (p : ℕ) {r : Bounds} (q : ℕ) → p < length K → q < length K → q ≡ source_of e
    → r ≡ effect_on_one e p (stored K p) (stored K q) → r ≡ effect_on e K p
effect-on-read e K p q h i z t =
    t ∙ (ap (λ (b : Bounds). effect_on_one e p b (stored K q)) (stored-known K p h)
    ∙ (ap (effect_on_one e p (known K p)) (stored-known K q i ∙ ap (known K) z) ∙ sym (effect-on-one e K p)))

-- The source of an effect is a variable.
pub source-below : (e : Effect) → Short e → source_of e < 16
source-below Keep s = omega arith
source-below (Forget v) s = omega arith
source-below (Shift v k) s = omega arith
source-below (Copy v q) s = s
source-below (Object v z n) s = omega arith

pub source-within : (K : List Bounds) (e : Effect) {q : ℕ} → q ≡ source_of e → Short e → length K ≡ 16 → q < length K
source-within K e z s l = omega (arith, source-below e s)

-- What the code makes of one pointer's bounds is what is known of it after the effect.
pub effect-known : (e : Effect) (K : List Bounds) {p : ℕ} {r : Bounds} (q : ℕ) → p < 16 → length K ≡ 16 → Short e → q ≡ source_of e
    → r ≡ effect_on_one e p (stored K p) (stored K q) → r ≡ known (bounds_after e K) p
effect-known e K {p} q h l s z t = effect-on-read e K p q (omega arith) (source-within K e z s l) z t ∙ sym (known-after e K p h)
