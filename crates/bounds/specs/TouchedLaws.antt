-- Laws of an effect that touches the declared bounds of some pointer, as the code meets them.
use Rattle.std.specs.Prelude.{ℕ, zero, suc, ◌+◌, ◌<◌, ◌≡◌, refl, Bool, true, false, not, ◌&&◌, ◌||◌, cond, ltb, length}
use Rattle.std.proofs.Math.Path.{ap, sym}
use Rattle.std.proofs.Common.{◌∙◌, lt-ltb, le-ltb}
use native.Mathlib.Omega.{arith}
use Rattle.table.specs.Form.{lowest_from}
use Rattle.rules.specs.BoundsRules.{is_pointer}
use Rattle.rules.specs.declared.Environment.{Environment}
use Rattle.rules.specs.declared.Effect.{Effect}
use Rattle.bounds.specs.Stays.{stays, changed_by, replaced_by, left_alone}
use Rattle.bounds.specs.StaysLaws.{stored, stored-known, stays-read}
use Rattle.bounds.specs.Touched.{touched_at, touched_from, touched}

-- The pointer's test, as the code meets it: by the two numbers of the effect.
pub touched-told : (E : Environment) (e : Effect) (p : ℕ) {c r : ℕ} {st b : Bool} → p < 16 → p < length E.declared → c ≡ changed_by e → r ≡ replaced_by e
    → st ≡ left_alone c r p (stored E.declared p) → b ≡ (is_pointer E p && not st) → not (touched_at E e p) ≡ not b
unfolding touched_at
touched-told E e p h d x y s t =
    let w = stays-read e p (stored E.declared p) h x y s ∙ ap (stays e p) (stored-known E.declared p d) in
    ap not (sym (t ∙ ap (λ (v : Bool). is_pointer E p && not v) w))

module _ (E : Environment) (e : Effect) where
  from-first : (n p m : ℕ) → m ≡ p + n → ltb (lowest_from (λ k. not (touched_at E e k)) p n) m ≡ touched_from E e n p
  unfolding touched_from lowest_from
  from-first zero p m q = le-ltb p m (omega arith)
  from-first (suc n) p m q = go (touched_at E e p) (from-first n (p + 1) m (omega arith))
    where
      go : (b : Bool) → ltb (lowest_from (λ k. not (touched_at E e k)) (p + 1) n) m ≡ touched_from E e n (p + 1)
          → ltb (cond (not b) (lowest_from (λ k. not (touched_at E e k)) (p + 1) n) p) m ≡ (b || touched_from E e n (p + 1))
      go true later = lt-ltb p m (omega arith)
      go false later = later

  -- The search stops before its end where some pointer is touched.
  pub first-touched : {found : ℕ} → found ≡ lowest_from (λ k. not (touched_at E e k)) 0 16 → ltb found 16 ≡ touched E e
  unfolding touched
  first-touched h = rw h (from-first 16 0 16 refl)
