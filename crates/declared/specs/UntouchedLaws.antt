-- Declared bounds that an effect does not touch stay shown; and the flags of the variables that declared bounds name tell whether an effect touches any.
use Prim.Native.Nat.{ℕ, zero, suc, ◌+◌, ◌≤◌, ◌<◌}
use Rattle.std.specs.Prelude.{◌≡◌, Bool, false, not, ◌&&◌, List, [], ◌≢◌, ltb, eqb, length, get_or, None, Option, Some}
use Rattle.std.proofs.Math.Path.{refl, ap}
use Rattle.std.proofs.Common.{sym, ◌∙◌, arith, eq-eqb, ne_eqb, ltb-true, ltb-false}
use Rattle.std.proofs.Math.Bool.{true, false≢true}
use Rattle.std.proofs.Math.ListN.{get_or-eq_default}
use Rattle.arrays.specs.Tabulate.{tabulate}
use Rattle.arrays.specs.TabulateLaws.{length-tabulate, get_d_tabulate}
use Rattle.facts.specs.declared.FactSet.{FactSet}
use Rattle.words.specs.SectionsLaws.{both}
use Rattle.table.specs.declared.variables.End.{End}
use Rattle.rules.specs.BoundsRules.{is_pointer, declared, known, cons_if}
use Rattle.rules.specs.Stored.{same_end, bounds_shown, unshown_from, unshown, bounds_after}
use Rattle.rules.specs.BoundsTrue.{known-after}
use Rattle.rules.specs.FactsTrue.{neither}
use Rattle.rules.specs.declared.Bounds.{Bounds}
use Rattle.rules.specs.declared.Environment.{Environment}
use Rattle.rules.specs.declared.Effect.{Effect}
use Rattle.rules.specs.declared.Effect.TheVariants.{Forget}
use Rattle.bounds.specs.Stays.{end_stays, bounds_stay, stays, changed_by, replaced_by, left_alone}
use Rattle.bounds.specs.StaysLaws.{stored, stored-known}
use Rattle.bounds.specs.Touched.{touched_at, touched_from, touched, named_in, touches}
use Rattle.bounds.specs.BoundsRulesLaws.{left-known}
use Rattle.declared.specs.Shown.{same_known, same_bounds}
use Rattle.declared.specs.ShownLaws.{same-shown, missed, missed-unasked}
use Rattle.rules.specs.BoundsRules as bounds_rules

-- Bounds that stay are known, and so the same as themselves.
same_refl : (e : End) → same_end e e ≡ true
same_refl e = rw (eq-eqb e.pointer e.pointer refl, eq-eqb e.integer e.integer refl, eq-eqb e.constant e.constant refl)

stay-same : (v : ℕ) (e : Option End) → end_stays v e ≡ true → same_known e e ≡ true
unfolding end_stays same_known
stay-same v None h = h
stay-same v (Some e) h = same_refl e

stay-shown : (f : FactSet) (v p : ℕ) (b : Bounds) → bounds_stay v b ≡ true → bounds_shown f p b b ≡ true
unfolding bounds_stay same_bounds
stay-shown f v p b h =
    let t = both (end_stays v b.lower) (end_stays v b.upper) h in
    same-shown f p b b (rw (eq-eqb b.size b.size refl, stay-same v b.lower t.0, stay-same v b.upper t.1) refl)

-- A pointer that is not asked: the effect leaves its bounds alone.
pub unasked-alone : (E : Environment) (f : FactSet) (e : Effect) (p : ℕ) {alone : Bool} → p < 16 → p < length E.declared
    → alone ≡ left_alone (changed_by e) (replaced_by e) p (stored E.declared p) → (is_pointer E p && not alone) ≡ false
    → missed E f (bounds_after e E.declared) p ≡ false
unfolding missed left_alone
unasked-alone E f e p {alone} h d w t =
    missed-unasked (is_pointer E p) alone (bounds_shown f p (known (bounds_after e E.declared) p) (declared E p)) t shown
  where
    shown : alone ≡ true → bounds_shown f p (known (bounds_after e E.declared) p) (declared E p) ≡ true
    shown s =
        let u : left_alone (changed_by e) (replaced_by e) p (declared E p) ≡ true = rw (stored-known E.declared p d) at (sym w ∙ s) in
        rw (known-after e E.declared p h ∙ left-known e E.declared p u)
        (stay-shown f (changed_by e) p (declared E p) (both (not (eqb p (replaced_by e))) (bounds_stay (changed_by e) (declared E p)) u).1)

module _ (E : Environment) (e : Effect) (other : is_pointer E (replaced_by e) ≡ false) where
  -- A pointer whose bounds do not name what the effect changes, and are not replaced by it, stays shown.
  spared-at : (f : FactSet) (p : ℕ) → p < 16 → touched_at E (Forget (changed_by e)) p ≡ false → missed E f (bounds_after e E.declared) p ≡ false
  unfolding touched_at stays left_alone missed
  spared-at f p h t = go (is_pointer E p) refl (bounds_stay (changed_by e) (declared E p)) refl
    where
      apart : is_pointer E p ≡ true → p ≢ replaced_by e
      apart i q = false≢true (sym (rw q other) ∙ i)

      kept : is_pointer E p ≡ true → bounds_stay (changed_by e) (declared E p) ≡ true → known (bounds_after e E.declared) p ≡ declared E p
      kept i s = known-after e E.declared p h
          ∙ left-known e E.declared p (rw (ne_eqb p (replaced_by e) (apart i), s) refl)

      go : (a : Bool) → is_pointer E p ≡ a → (b : Bool) → bounds_stay (changed_by e) (declared E p) ≡ b
          → (is_pointer E p && not (bounds_shown f p (known (bounds_after e E.declared) p) (declared E p))) ≡ false
      go false i b s = rw i refl
      go true i false s = absurd (false≢true (sym t ∙ rw (i, s) refl))
      go true i true s = rw (i, kept i s, stay-shown f (changed_by e) p (declared E p) s) refl

  spared-from : (f : FactSet) (n p : ℕ) → n + p ≤ 16 → touched_from E (Forget (changed_by e)) n p ≡ false → unshown_from E f (bounds_after e E.declared) n p
      ≡ []
  unfolding touched_from bounds_rules.unshown_from missed
  spared-from f zero p h t = refl
  spared-from f (suc n) p h t =
      let u = neither (touched_at E (Forget (changed_by e)) p) (touched_from E (Forget (changed_by e)) n (p + 1)) t in
      ap (λ (b : Bool). cons_if b p (unshown_from E f (bounds_after e E.declared) n (p + 1))) (spared-at f p (omega arith) u.0)
      ∙ spared-from f n (p + 1) (omega arith) u.1

-- A flag past the end of the table counts as set.
flag-clear : (E : Environment) (v : ℕ) → get_or (named_in E) v true ≡ false → touched E (Forget v) ≡ false
unfolding named_in
flag-clear E v c = go (ltb v 18) refl
  where
    go : (b : Bool) → ltb v 18 ≡ b → touched E (Forget v) ≡ false
    go true h = sym (get_d_tabulate 18 (λ (m : ℕ). touched E (Forget m)) v true (ltb-true v 18 h)) ∙ c
    go false h = absurd (false≢true (sym c ∙ get_or-eq_default (tabulate 18 (λ (m : ℕ). touched E (Forget m))) true
        {n = v} (omega (arith, ltb-false v 18 h, length-tabulate 18 (λ (m : ℕ). touched E (Forget m))))))

-- What the flags tell not to be touched need not be shown again, whatever the facts.
pub unnamed : (E : Environment) (e : Effect) {named : List Bool} → named ≡ named_in E → touches named E.pointers e ≡ false → (f : FactSet)
    → unshown E f (bounds_after e E.declared) ≡ []
unfolding touches touched bounds_rules.unshown
unnamed E e {named} r t f =
    let u = neither (get_or named (changed_by e) true) (get_or E.pointers (replaced_by e) false) t in
    spared-from E e u.1 f 16 0 (omega arith) (flag-clear E (changed_by e) (rw r at u.0))
