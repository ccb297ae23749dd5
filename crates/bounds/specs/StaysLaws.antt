-- Laws of bounds that an effect leaves as they are, as the code meets them.
use Rattle.std.specs.Prelude.{ℕ, ◌<◌, ◌≡◌, refl, Bool, not, ◌&&◌, List, length, get_or, None}
use Rattle.std.proofs.Common.{ap, ◌∙◌, arith, ne_eqb}
use Rattle.arrays.specs.TabulateLaws.{any-default}
use Rattle.rules.specs.BoundsRules.{known}
use Rattle.rules.specs.declared.Bounds.{Bounds}
use Rattle.rules.specs.declared.Effect.{Effect}
use Rattle.rules.specs.declared.Effect.TheVariants.{Keep, Forget, Shift, Copy, Object}
use Rattle.bounds.specs.Stays.{bounds_stay, stays, changed_by, replaced_by, left_alone}

-- What the code reads at an index of an array of bounds; past the array's end, which it never reads, this stands.
abbrev blank : Bounds
blank = record { size = 0; lower = None; upper = None }

abbrev pub stored : List Bounds → ℕ → Bounds
stored K p = get_or K p blank

pub stored-known : (K : List Bounds) (p : ℕ) → p < length K → stored K p ≡ known K p
stored-known K p h = any-default K p _ _ h

-- The two numbers of an effect say which bounds it leaves as they are: no pointer has the number 17.
pub left-alone : (e : Effect) (p : ℕ) (b : Bounds) → p < 16 → left_alone (changed_by e) (replaced_by e) p b ≡ stays e p b
unfolding left_alone stays
left-alone Keep p b h = ap (λ (t : Bool). not t && bounds_stay 17 b) (ne_eqb p 17 (λ e. omega arith))
left-alone (Forget v) p b h = ap (λ (t : Bool). not t && bounds_stay v b) (ne_eqb p 17 (λ e. omega arith))
left-alone (Shift v k) p b h = ap (λ (t : Bool). not t && bounds_stay v b) (ne_eqb p 17 (λ e. omega arith))
left-alone (Copy v q) p b h = refl
left-alone (Object v z n) p b h = refl

pub stays-read : (e : Effect) (p : ℕ) (b : Bounds) {c r : ℕ} {st : Bool} → p < 16 → c ≡ changed_by e → r ≡ replaced_by e → st ≡ left_alone c r p b
    → st ≡ stays e p b
stays-read e p b h x y s = rw (x, y) at s ∙ left-alone e p b h
