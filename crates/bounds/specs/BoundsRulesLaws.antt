-- Laws of known bounds after an effect, as the code meets them.
use Rattle.table.specs.declared.variables.End.{End}
use Rattle.std.specs.Prelude.{ℕ, ◌+◌, ◌<◌, ◌≡◌, refl, Bool, true, false, not, ◌&&◌, cond, List, eqb, length, set, None, Option, Some}
use Rattle.std.proofs.Common.{sym, ap, ◌∙◌, arith, ext_get_or}
use Rattle.std.proofs.lemmas.Bool.{false≢true, not-true}
use Rattle.facts.specs.Store.{in_range}
use Rattle.arrays.specs.Choice.{cond_either}
use Rattle.arrays.specs.Tabulate.{tabulate}
use Rattle.arrays.specs.TabulateLaws.{length-tabulate, get_d_tabulate, Filled, filled_more, filled_next, filled-kept}
use Rattle.facts.specs.declared.FactSet.{FactSet}
use Rattle.words.specs.SectionsLaws.{both}
use Rattle.statements.specs.declared.Simple.{Simple}
use Rattle.statements.specs.declared.Simple.TheVariants.{Literal, AddConstant, Arithmetic, Null, Address}
use Rattle.statements.specs.declared.Simple.TheVariants.{PointerOffset, PointerIndex, Load, Store, Check, Declare}
use Rattle.rules.specs.BoundsRules.{nothing_known, known, names, forget_end, forget_bounds, object_bounds, weight}
use Rattle.rules.specs.Stored.{effect, shift_constant, shift_end, shift_bounds, effect_on, bounds_after}
use Rattle.rules.specs.Ranges.{InRange, Measured, Short}
use Rattle.rules.specs.declared.Bounds.{Bounds}
use Rattle.rules.specs.declared.Environment.{Environment}
use Rattle.rules.specs.declared.Effect.{Effect}
use Rattle.rules.specs.declared.Effect.TheVariants.{Keep, Forget, Shift, Copy, Object}
use Rattle.bounds.specs.Stays.{end_stays, bounds_stay, changed_by, replaced_by, left_alone, end_same, bounds_same, made_same}
use Rattle.bounds.specs.StaysLaws.{stored, stored-known}
use Rattle.bounds.specs.Transfer.{source_of, effect_on_one}
use Rattle.bounds.specs.TransferLaws.{effect-on-one, effect-on-read, source-within}
use Rattle.bounds.specs.Kept.{keeps_all}
use Rattle.rules.specs.BoundsRules as bounds_rules

-- ---- effects

-- An effect that keeps all bounds makes the same list again.
pub all-kept : (e : Effect) (K : List Bounds) {b : Bool} → length K ≡ 16 → b ≡ keeps_all e → b ≡ true → K ≡ bounds_after e K
unfolding bounds_rules.bounds_after bounds_rules.effect_on
all-kept Keep K l s t =
    ext_get_or nothing_known K (tabulate 16 (known K)) (l ∙ sym (length-tabulate 16 (known K)))
    (λ i h. sym (get_d_tabulate 16 (known K) i nothing_known (omega arith)))
all-kept (Forget v) K l s t = absurd (false≢true (sym s ∙ t))
all-kept (Shift v k) K l s t = absurd (false≢true (sym s ∙ t))
all-kept (Copy v q) K l s t = absurd (false≢true (sym s ∙ t))
all-kept (Object v z n) K l s t = absurd (false≢true (sym s ∙ t))

pub effect-short : (E : Environment) (f : FactSet) (s : Simple) → Measured E → InRange s → Short (effect E f s)
unfolding bounds_rules.effect
effect-short E f (Literal x k) m r = tt
effect-short E f (AddConstant x y k) m r = cond_either Short (in_range f y k && eqb x y) (Shift x k) (Forget x) tt tt
effect-short E f (Arithmetic x y z op) m r = tt
effect-short E f (Null p) m r = tt
effect-short E f (Address p o) m r = m o
effect-short E f (PointerOffset p q k) m r = cond_either Short (eqb p q) (Shift p k) (Copy p q) tt r.1
effect-short E f (PointerIndex p q i) m r = cond_either Short (eqb p q) (Forget p) (Copy p q) tt r
effect-short E f (Load x p i k) m r = tt
effect-short E f (Store p i k x) m r = tt
effect-short E f (Check c) m r = tt
effect-short E f (Declare p r) m l = tt

-- ---- bounds that an effect makes the same again, or leaves as they are

record Same (v : ℕ) (e : Option End) : Type 0 where
  forgotten : forget_end v e ≡ e
  moved : (s k : ℕ) → shift_end s v k e ≡ e

end-same : (v : ℕ) (e : Option End) → end_same v e ≡ true → Same v e
unfolding end_same forget_end bounds_rules.shift_end
end-same v None h = record { forgotten = refl; moved = λ s k. refl }
end-same v (Some e) h =
    let n : names e v ≡ false = not-true (names e v) h in
    record {
      forgotten = ap (λ (b : Bool). cond b None (Some e)) n;
      moved = λ s k. ap (λ (b : Bool). cond b (shift_constant (weight s v e) k e) (Some e)) n;
    }

module _ (v : ℕ) (b : Bounds) (h : bounds_same v b ≡ true) where
  lower-same : Same v b.lower
  unfolding bounds_same
  lower-same = end-same v b.lower (both (end_same v b.lower) (end_same v b.upper) h).0

  upper-same : Same v b.upper
  unfolding bounds_same
  upper-same = end-same v b.upper (both (end_same v b.lower) (end_same v b.upper) h).1

  same-forgotten : forget_bounds v b ≡ b
  unfolding forget_bounds
  same-forgotten = let e₁ = lower-same.forgotten in let e₂ = upper-same.forgotten in rw (e₁, e₂)

  same-moved : (k : ℕ) → shift_bounds v k b ≡ b
  unfolding bounds_rules.shift_bounds
  same-moved k = let e₁ = lower-same.moved b.size k in let e₂ = upper-same.moved b.size k in rw (e₁, e₂)

-- Bounds with these two numbers of the effect are what it makes of them.
made-same : (e : Effect) (p : ℕ) (own source : Bounds) → made_same (changed_by e) (replaced_by e) p own ≡ true → effect_on_one e p own source ≡ own
unfolding made_same
made-same Keep p own source h = refl
made-same (Forget v) p own source h = same-forgotten v own (both (not (eqb p 17)) (bounds_same v own) h).1
made-same (Shift v k) p own source h = same-moved v own (both (not (eqb p 17)) (bounds_same v own) h).1 k
made-same (Copy v q) p own source h =
    let t = both (not (eqb p v)) (bounds_same v own) h in
    ap (λ (b : Bool). forget_bounds v (cond b source own)) (not-true (eqb p v) t.0) ∙ same-forgotten v own t.1
made-same (Object v z n) p own source h =
    let t = both (not (eqb p v)) (bounds_same v own) h in
    ap (λ (b : Bool). cond b (object_bounds v z n) (forget_bounds v own)) (not-true (eqb p v) t.0) ∙ same-forgotten v own t.1

-- An end that stays is known, and the same.
end-stays : (v : ℕ) (e : Option End) → end_stays v e ≡ true → end_same v e ≡ true
unfolding end_stays end_same
end-stays v None h = refl
end-stays v (Some e) h = h

bounds-stay : (v : ℕ) (b : Bounds) → bounds_stay v b ≡ true → bounds_same v b ≡ true
unfolding bounds_stay bounds_same
bounds-stay v b h =
    let t = both (end_stays v b.lower) (end_stays v b.upper) h in
    let e₁ = end-stays v b.lower t.0 in
    let e₂ = end-stays v b.upper t.1 in
    rw (e₁, e₂)

left-same : (e : Effect) (p : ℕ) (b : Bounds) → left_alone (changed_by e) (replaced_by e) p b ≡ true → made_same (changed_by e) (replaced_by e) p b ≡ true
unfolding left_alone made_same
left-same e p b h =
    let t = both (not (eqb p (replaced_by e))) (bounds_stay (changed_by e) b) h in
    let e₁ = t.0 in
    let e₂ = bounds-stay (changed_by e) b t.1 in
    rw (e₁, e₂)

pub same-known : (e : Effect) (K : List Bounds) (p : ℕ) → made_same (changed_by e) (replaced_by e) p (known K p) ≡ true → effect_on e K p ≡ known K p
same-known e K p h = effect-on-one e K p ∙ made-same e p (known K p) (known K (source_of e)) h

pub left-known : (e : Effect) (K : List Bounds) (p : ℕ) → left_alone (changed_by e) (replaced_by e) p (known K p) ≡ true → effect_on e K p ≡ known K p
left-known e K p h = same-known e K p (left-same e p (known K p) h)

-- ---- known bounds after an effect, one pointer after the other

module _ {l K : List Bounds} (e : Effect) {p : ℕ} (q : Filled l K 16 (effect_on e K) p) (h : p < 16) (long : length K ≡ 16) where
  pub filled-same : {c r : ℕ} {st : Bool} → c ≡ changed_by e → r ≡ replaced_by e → st ≡ made_same c r p (stored K p) → st ≡ true
      → Filled l K 16 (effect_on e K) (p + 1)
  filled-same x y z t =
      let u : made_same (changed_by e) (replaced_by e) p (stored K p) ≡ true = sym (rw (x, y) at z) ∙ t in
      let s : made_same (changed_by e) (replaced_by e) p (known K p) ≡ true = rw (sym (stored-known K p (omega arith))) u in
      filled-kept nothing_known q h (filled_next nothing_known q ∙ sym (same-known e K p s))

  pub filled-anew : {b : Bounds} (s : ℕ) → Short e → s ≡ source_of e → b ≡ effect_on_one e p (stored K p) (stored K s)
      → Filled (set l p b) K 16 (effect_on e K) (p + 1)
  filled-anew s u z t = filled_more q h (effect-on-read e K p s (omega arith) (source-within K e z u long) z t)
