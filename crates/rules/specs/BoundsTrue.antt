-- Known bounds that lie in a part of memory, from `low` up to `high`, go on to lie in it through every rule on bounds.
use Prim.Native.Nat.{ℕ, zero, suc, ◌+◌, ◌-◌, ◌^◌, ◌≤◌, ◌<◌, ◌*◌}
use Rattle.std.specs.Prelude.{◌≡◌, ◌≢◌, ◌⊎◌, Bool, ◌&&◌, ◌||◌, List, [], get_or, None, Option, Some}
use Rattle.std.proofs.Math.Path.{refl, sym, ap}
use Rattle.std.proofs.Common.{◌∙◌, ap₂, eq-or-lt_of_le, mul-zero}
use Rattle.std.proofs.Math.Logic.{inl, inr, ⊎_elim}
use Rattle.std.proofs.Math.Bool.{true, false, not, cond}
use Rattle.std.proofs.lemmas.Bool.{false≢true}
use native.Mathlib.Omega.{arith}
use borrow.Author.Tests.{ltb-false, leb-true, ltb-true, eqb-true, eqb-false, not-false}
use Rattle.std.proofs.Math.Dec.{leb, ltb, eqb}
use Rattle.std.proofs.Math.ListN.{get_or-eq_default}
use Rattle.sums.specs.Numbers.{bias, zero_var}
use Rattle.sums.specs.Scale.{scale-equal}
use Rattle.arrays.specs.TabulateLaws.{get_d_tabulate, length-tabulate}
use Rattle.facts.specs.Store.{shown, end_shown}
use Rattle.chains.proofs.Sound.{InRange, Holds, Except, end-true}
use Rattle.facts.specs.declared.FactSet.{FactSet}
use Rattle.words.specs.SectionsLaws.{both}
use Rattle.words.specs.NameLaws.{either}
use Rattle.table.specs.declared.variables.End.{End}
use Rattle.rules.specs.FactsTrue.{neither}
use Rattle.rules.specs.BoundsRules.{nothing_known, is_pointer, declared, known, names, forget_end, forget_bounds, object_bounds}
use Rattle.rules.specs.BoundsRules.{cons_if, own_rows, row_bound, in_force, sized, element_size, weight, comparable_ends}
use Rattle.rules.specs.Stored.{same_end, end_at_most, known_at_most, bounds_shown, unshown_from, unshown}
use Rattle.rules.specs.Stored.{shift_constant, shift_end, shift_bounds, effect_on, bounds_after, store}
use Rattle.rules.specs.declared.Bounds.{Bounds}
use Rattle.rules.specs.declared.Environment.{Environment}
use Rattle.rules.specs.declared.Effect.{Effect}
use Rattle.rules.specs.BoundsRules as bounds_rules

-- The value of an end with the element size s, with the bias.
abbrev pub end_at : (ℕ → ℕ) → ℕ → End → ℕ
end_at v s e = v e.pointer + s * v e.integer + e.constant

-- An end that the rules can compare and shift: it names two variables, or one and zero.
pub record Proper (e : End) : Type 0 where
  pub pointer : e.pointer < 17
  pub integer : e.integer < 17
  pub distinct : e.pointer ≢ e.integer

abbrev pub ProperEnd : Option End → Type 0
ProperEnd None = Unit {0}
ProperEnd (Some e) = Proper e

-- A known lower end is at least `low`, a known upper end at most `high`; of an unknown end nothing is said.
abbrev pub LowerHolds : ℕ → ℕ → Option End → (ℕ → ℕ) → Type 0
LowerHolds low s None v = Unit {0}
LowerHolds low s (Some e) v = Proper e × (low ≤ end_at v s e)

abbrev pub UpperHolds : ℕ → ℕ → Option End → (ℕ → ℕ) → Type 0
UpperHolds high s None v = Unit {0}
UpperHolds high s (Some e) v = Proper e × (end_at v s e ≤ high)

pub record BoundsHold (low high : ℕ) (b : Bounds) (v : ℕ → ℕ) : Type 0 where
  pub lower : LowerHolds low b.size b.lower v
  pub upper : UpperHolds high b.size b.upper v

-- ---- assigning a variable

-- What an assignment leaves of the end e has the value that e had.
abbrev Kept : (ℕ → ℕ) → (ℕ → ℕ) → ℕ → End → Option End → Type 0
Kept v w s e None = Unit {0}
Kept v w s e (Some g) = Proper g × (end_at w s g ≡ end_at v s e)

module _ (v w : ℕ → ℕ) (s : ℕ) (change : Option End → Option End) (unknown : change None ≡ None)
    (kept : (e : End) → Proper e → Kept v w s e (change (Some e))) where
  lower-changed : (low : ℕ) (e : Option End) → LowerHolds low s e v → LowerHolds low s (change e) w
  lower-changed low None h = rw unknown tt
  lower-changed low (Some e) h = go (change (Some e)) (kept e h.0)
    where
      go : (g : Option End) → Kept v w s e g → LowerHolds low s g w
      go None k = tt
      go (Some g) k = (k.0, omega (arith, k.1, h.1))

  upper-changed : (high : ℕ) (e : Option End) → UpperHolds high s e v → UpperHolds high s (change e) w
  upper-changed high None h = rw unknown tt
  upper-changed high (Some e) h = go (change (Some e)) (kept e h.0)
    where
      go : (g : Option End) → Kept v w s e g → UpperHolds high s g w
      go None k = tt
      go (Some g) k = (k.0, omega (arith, k.1, h.1))

module _ (v w : ℕ → ℕ) (x : ℕ) (same : Except x v w) where
  unnamed : (s : ℕ) (e : End) → names e x ≡ false → end_at w s e ≡ end_at v s e
  unnamed s e t =
      let p = neither (eqb e.pointer x) (eqb e.integer x) t in
      ap₂ (λ (a b : ℕ). a + s * b + e.constant) (same e.pointer (eqb-false _ _ p.0)) (same e.integer (eqb-false _ _ p.1))

  forget-kept : (s : ℕ) (e : End) → Proper e → Kept v w s e (forget_end x (Some e))
  unfolding forget_end
  forget-kept s e r = go (names e x) refl
    where
      go : (b : Bool) → names e x ≡ b → Kept v w s e (cond b None (Some e))
      go true t = tt
      go false t = (r, unnamed s e t)

  pub forget-holds : (low high : ℕ) (b : Bounds) → BoundsHold low high b v → BoundsHold low high (forget_bounds x b) w
  unfolding forget_bounds forget_end
  forget-holds low high b h =
      record {
        lower = lower-changed v w b.size (forget_end x) refl (forget-kept b.size) low b.lower h.lower;
        upper = upper-changed v w b.size (forget_end x) refl (forget-kept b.size) high b.upper h.upper;
      }

  module _ (k : ℕ) (raised : w x + bias ≡ v x + k) where
    -- The end names x once: what x gains, times its weight, the constant loses.
    shifted-value : (s : ℕ) (e : End) → Proper e → names e x ≡ true → weight s x e * k ≤ e.constant + weight s x e * bias
        → w e.pointer + s * w e.integer + (e.constant + weight s x e * bias - weight s x e * k) ≡ end_at v s e
    unfolding weight
    shifted-value s e r t l = go (eqb e.pointer x) refl t l
      where
        go : (b : Bool) → eqb e.pointer x ≡ b → (b || eqb e.integer x) ≡ true → cond b 1 s * k ≤ e.constant + cond b 1 s * bias
            → w e.pointer + s * w e.integer + (e.constant + cond b 1 s * bias - cond b 1 s * k) ≡ end_at v s e
        go true p t l =
            let q : e.pointer ≡ x = eqb-true _ _ p in
            let u : w e.pointer + bias ≡ v e.pointer + k = rw q raised in
            let i : s * w e.integer ≡ s * v e.integer = ap (λ (a : ℕ). s * a) (same e.integer (λ z. r.distinct (q ∙ sym z))) in
            omega arith
        go false p t l =
            let q : e.integer ≡ x = eqb-true _ _ t in
            let u : s * w e.integer + s * bias ≡ s * v e.integer + s * k = scale-equal s (w e.integer) bias (v e.integer) k (rw q raised) in
            omega (arith, same e.pointer (λ z. r.distinct (z ∙ sym q)))

    constant-kept : (s : ℕ) (e : End) → Proper e → names e x ≡ true → Kept v w s e (shift_constant (weight s x e) k e)
    unfolding shift_constant
    constant-kept s e r t =
        go (leb (weight s x e) 8 && ltb k (2 ^ 40) && ltb e.constant (2 ^ 40)) (leb (weight s x e * k) (e.constant + weight s x e * bias)) refl
      where
        go : (a b : Bool) → leb (weight s x e * k) (e.constant + weight s x e * bias) ≡ b
            → Kept v w s e (cond (a && b)
            (Some (record { pointer = e.pointer; integer = e.integer; constant = e.constant + weight s x e * bias - weight s x e * k })) None)
        go false b z = tt
        go true false z = tt
        go true true z = (
          record { pointer = r.pointer; integer = r.integer; distinct = r.distinct },
          shifted-value s e r t (leb-true _ _ z),
        )

    shift_kept : (s : ℕ) (e : End) → Proper e → Kept v w s e (shift_end s x k (Some e))
    unfolding bounds_rules.shift_end
    shift_kept s e r = go (names e x) refl
      where
        go : (b : Bool) → names e x ≡ b → Kept v w s e (cond b (shift_constant (weight s x e) k e) (Some e))
        go true t = constant-kept s e r t
        go false t = (r, unnamed s e t)

    pub shift-holds : (low high : ℕ) (b : Bounds) → BoundsHold low high b v → BoundsHold low high (shift_bounds x k b) w
    unfolding bounds_rules.shift_bounds bounds_rules.shift_end
    shift-holds low high b h =
        record {
          lower = lower-changed v w b.size (shift_end b.size x k) refl (shift_kept b.size) low b.lower h.lower;
          upper = upper-changed v w b.size (shift_end b.size x k) refl (shift_kept b.size) high b.upper h.upper;
        }

-- The bounds of a whole object, whatever the size: its ends name no integer.
pub object-holds : (low s n p : ℕ) (v : ℕ → ℕ) → InRange v → p < 16 → v p ≡ low → BoundsHold (low + bias) (low + n + bias) (object_bounds p s n) v
unfolding object_bounds
object-holds low s n p v g hp e =
    let z : s * v zero_var ≡ 0 = ap (λ (a : ℕ). s * a) g.zero_is ∙ mul-zero s in
    record {
      lower = (record { pointer = omega arith; integer = omega arith; distinct = λ q. omega arith }, omega arith);
      upper = (record { pointer = omega arith; integer = omega arith; distinct = λ q. omega arith }, omega arith);
    }

-- The bounds of a pointer after a statement.
pub known-after : (e : Effect) (K : List Bounds) (p : ℕ) → p < 16 → known (bounds_after e K) p ≡ effect_on e K p
unfolding bounds_rules.bounds_after
known-after e K p l = get_d_tabulate 16 (effect_on e K) p nothing_known l

-- At entry each pointer's own bound is in force.
pub own-row : (p : ℕ) → get_or own_rows p 0 ≡ 0
own-row p = go (ltb p 16) refl
  where
    go : (b : Bool) → ltb p 16 ≡ b → get_or own_rows p 0 ≡ 0
    go true q = get_d_tabulate {A = ℕ} 16 (λ x. 0) p 0 (ltb-true p 16 q)
    go false q = get_or-eq_default own_rows 0 {n = p} (omega (arith, length-tabulate {A = ℕ} 16 (λ x. 0), ltb-false p 16 q))

-- The bounds of a number that is not 0, in the words of the code.
pub row-some : (E : Environment) (n p : ℕ) → n ≢ 0 → sized (element_size E p) (get_or E.rows (n - 1) nothing_known) ≡ row_bound E n p
unfolding row_bound
row-some E zero p e = absurd (e refl)
row-some E (suc n) p e = let q : suc n - 1 ≡ n = omega arith in rw q

-- The declared bounds in force of a pointer.
pub declared-in-force : (E : Environment) (R : List ℕ) (p : ℕ) → p < 16 → declared (in_force E R) p ≡ row_bound E (get_or R p 0) p
declared-in-force E R p l = get_d_tabulate 16 (λ q. row_bound E (get_or R q 0) q) p nothing_known l

pub own-declared : (E : Environment) (p : ℕ) → p < 16 → declared (in_force E own_rows) p ≡ declared E p
unfolding row_bound
own-declared E p l = declared-in-force E own_rows p l ∙ rw (own-row p)

-- ---- bounds that are shown

module _ (f : FactSet) (v : ℕ → ℕ) (h : Holds f v) (range : InRange v) where
  same_size : (s : ℕ) (e g : End) → e.pointer < 17 → e.integer < 17 → g.pointer < 17 → g.integer < 17
      → store.end_shown f s e.pointer e.integer e.constant g.pointer g.integer g.constant ≡ true → end_at v s e ≤ end_at v s g
  same_size s e g hq hn hr hm t = go (either (same_end e g) (end_shown f s e.pointer e.integer e.constant g.pointer g.integer g.constant) t)
    where
      go : (same_end e g ≡ true) ⊎ (end_shown f s e.pointer e.integer e.constant g.pointer g.integer g.constant ≡ true)
          → end_at v s e ≤ end_at v s g
      go (inl z) =
          let a = both (eqb e.pointer g.pointer && eqb e.integer g.integer) (eqb e.constant g.constant) z in
          let b = both (eqb e.pointer g.pointer) (eqb e.integer g.integer) a.0 in
          let c : e.constant ≡ g.constant = eqb-true _ _ a.1 in
          let i : s * v e.integer ≡ s * v g.integer = ap (λ (n : ℕ). s * v n) (eqb-true e.integer g.integer b.1) in
          omega (arith, ap v (eqb-true e.pointer g.pointer b.0))
      go (inr z) =
          end-true f v h s e.pointer e.integer e.constant g.pointer g.integer g.constant hq hn hr hm z

  -- An end that names no integer has the same value whatever the size.
  resized : (s t : ℕ) (e : End) (g : End) → comparable_ends s e t g ≡ true → end_at v s g ≡ end_at v t g
  resized s t e g z = go (either (eqb s t) (eqb e.integer zero_var && eqb g.integer zero_var) z)
    where
      go : (eqb s t ≡ true) ⊎ ((eqb e.integer zero_var && eqb g.integer zero_var) ≡ true) → end_at v s g ≡ end_at v t g
      go (inl q) = ap (λ (a : ℕ). end_at v a g) (eqb-true s t q)
      go (inr q) =
          let i : v g.integer ≡ 0 = ap v (eqb-true _ _ (both (eqb e.integer zero_var) (eqb g.integer zero_var) q).1) ∙ range.zero_is in
          let a : s * v g.integer ≡ 0 = ap (λ (n : ℕ). s * n) i ∙ mul-zero s in
          let b : t * v g.integer ≡ 0 = ap (λ (n : ℕ). t * n) i ∙ mul-zero t in
          omega arith

  end-at-most : (s : ℕ) (e : End) (t : ℕ) (g : End) → Proper e → Proper g → end_at_most f s e t g ≡ true → end_at v s e ≤ end_at v t g
  unfolding bounds_rules.end_at_most
  end-at-most s e t g r q z =
      let b = both (comparable_ends s e t g) (store.end_shown f s e.pointer e.integer e.constant g.pointer g.integer g.constant) z in
      omega (arith, same_size s e g r.pointer r.integer q.pointer q.integer b.1, resized s t e g b.0)

  -- Ends of one size, of which one may be an address.
  pub end_below : (s : ℕ) (e g : End) → e.pointer < 17 → e.integer < 17 → g.pointer < 17 → g.integer < 17 → end_at_most f s e s g ≡ true
      → end_at v s e ≤ end_at v s g
  unfolding bounds_rules.end_at_most
  end_below s e g hq hn hr hm z =
      same_size s e g hq hn hr hm
      (both (comparable_ends s e s g) (store.end_shown f s e.pointer e.integer e.constant g.pointer g.integer g.constant) z).1

  lower-shown : (low s t : ℕ) (e g : Option End) → known_at_most f s e t g ≡ true → ProperEnd g → LowerHolds low s e v → LowerHolds low t g v
  unfolding bounds_rules.known_at_most
  lower-shown low s t None g z q l = absurd (false≢true z)
  lower-shown low s t (Some e) None z q l = absurd (false≢true z)
  lower-shown low s t (Some e) (Some g) z q l = (q, omega (arith, end-at-most s e t g l.0 q z, l.1))

  upper-shown : (high s t : ℕ) (g e : Option End) → known_at_most f s g t e ≡ true → ProperEnd g → UpperHolds high t e v → UpperHolds high s g v
  unfolding bounds_rules.known_at_most
  upper-shown high s t None e z q l = absurd (false≢true z)
  upper-shown high s t (Some g) None z q l = absurd (false≢true z)
  upper-shown high s t (Some g) (Some e) z q l = (q, omega (arith, end-at-most s g t e q l.0 z, l.1))

  -- Bounds that are shown by known bounds which lie in a part lie there too, or the pointer is null.
  pub shown-holds : (low high p : ℕ) (k d : Bounds) → p < 17 → ProperEnd d.lower → ProperEnd d.upper → bounds_shown f p k d ≡ true
      → BoundsHold low high k v → (v p ≡ 0) ⊎ BoundsHold low high d v
  unfolding bounds_rules.bounds_shown
  shown-holds low high p k d hp r s t l = go
      (either (shown f p zero_var bias) (known_at_most f k.size k.lower d.size d.lower && known_at_most f d.size d.upper k.size k.upper) t)
    where
      go : (shown f p zero_var bias ≡ true)
          ⊎ ((known_at_most f k.size k.lower d.size d.lower && known_at_most f d.size d.upper k.size k.upper) ≡ true)
          → (v p ≡ 0) ⊎ BoundsHold low high d v
      go (inl q) = inl (omega (arith, h p zero_var bias hp (omega arith) q, range.zero_is))
      go (inr q) =
          let b = both (known_at_most f k.size k.lower d.size d.lower) (known_at_most f d.size d.upper k.size k.upper) q in
          inr (record {
            lower = lower-shown low k.size d.size k.lower d.lower b.0 r l.lower;
            upper = upper-shown high d.size k.size d.upper k.upper b.1 s l.upper;
          })

-- Where no pointer is listed, the declared bounds of each are shown.
module _ (E : Environment) (f : FactSet) (K : List Bounds) where
  none-listed : (b : Bool) (p : ℕ) (ps : List ℕ) → cons_if b p ps ≡ [] → (b ≡ false) × (ps ≡ [])
  none-listed true p ps e = let z : ◌≡◌ {A = ℕ} 0 1 = cc in absurd (omega arith)
  none-listed false p ps e = (refl, e)

  denied : (a b : Bool) → a ≡ true → (a && not b) ≡ false → b ≡ true
  denied true b p q = not-false b q
  denied false b p q = absurd (false≢true p)

  shown-from : (n p : ℕ) → unshown_from E f K n p ≡ [] → (q : ℕ) → p ≤ q → q < p + n → is_pointer E q ≡ true → bounds_shown f q (known K q) (declared E q)
      ≡ true
  unfolding bounds_rules.unshown_from
  shown-from zero p e q l u t = absurd (omega arith)
  shown-from (suc n) p e q l u t =
      let r = none-listed (is_pointer E p && not (bounds_shown f p (known K p) (declared E p))) p (unshown_from E f K n (p + 1)) e in
      ⊎_elim
      (λ (s : p ≡ q).
      let a : (is_pointer E q && not (bounds_shown f q (known K q) (declared E q))) ≡ false = rw s at r.0 in
      denied (is_pointer E q) (bounds_shown f q (known K q) (declared E q)) t a)
      (λ (s : p < q). shown-from n (p + 1) r.1 q (omega arith) (omega arith) t)
      (eq-or-lt_of_le l)

  pub all_shown : unshown E f K ≡ [] → (p : ℕ) → p < 16 → is_pointer E p ≡ true → bounds_shown f p (known K p) (declared E p) ≡ true
  unfolding bounds_rules.unshown
  all_shown e p l t = shown-from 16 0 e p (omega arith) (omega arith) t
