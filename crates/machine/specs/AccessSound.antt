-- An access through a pointer whose declared bounds are true lies in the origin object, where no check fails.
use Prim.Native.Nat.{ℕ, suc, ◌+◌, ◌≤◌, ◌<◌, ◌-◌, ◌*◌, ◌^◌}
use Rattle.std.specs.Prelude.{◌≡◌, ◌≢◌, Bool, ◌||◌, ◌&&◌, List, leb, get_or, Some}
use Rattle.std.proofs.Math.Path.{refl}
use Rattle.std.proofs.Common.{sym, ◌∙◌, inl, inr, arith}
use Rattle.std.proofs.Math.Bool.{true, false, not}
use Rattle.std.proofs.lemmas.Bool.{false≢true}
use borrow.Author.Tests.{eqb-true, eq-eqb, ltb-false, leb-false, eqb-false, le-leb, lt-ltb, le-ltb, lt-leb, ne_eqb}
use Rattle.std.proofs.Math.Dec.{ltb, eqb}
use Rattle.sums.specs.Numbers.{bias, zero_var}
use Rattle.facts.specs.Store.{shown}
use Rattle.facts.specs.declared.FactSet.{FactSet}
use Rattle.chains.proofs.Sound.{InRange, Holds}
use Rattle.words.specs.SectionsLaws.{both}
use Rattle.table.specs.declared.variables.End.{End}
use Rattle.rules.specs.Stored.{end_at_most, known_at_most, address_safe}
use Rattle.statements.specs.declared.Simple.{Simple}
use Rattle.statements.specs.declared.Simple.TheVariants.{Literal, AddConstant, Arithmetic, Null, Address}
use Rattle.statements.specs.declared.Simple.TheVariants.{PointerOffset, PointerIndex, Load, Store, Check, Declare}
use Rattle.rules.specs.FactsTrue.{neither}
use Rattle.rules.specs.BoundsRules.{declared, element_size, is_string, is_terminated, upper_limit}
use Rattle.rules.specs.BoundsTrue.{end_at, BoundsHold, Proper, end_below}
use Rattle.rules.specs.BoundsRules as bounds_rules
use Rattle.rules.specs.EnvironmentLaws.{DeclaredEnds}
use Rattle.rules.specs.declared.Environment.{Environment}
use Rattle.machine.specs.Machine.{value, lower_end, upper_end, low, high, in_origin, Failing, none, address, load_failing, store_failing}
use Rattle.machine.specs.Machine.{first_of, access_failing, Memory, beyond, terminator_failing}
use Rattle.machine.specs.Good.{TrueOf, InObject}

pub first-none : (b : Bool) (n : ℕ) (rest : Failing) → first_of b n rest ≡ none → (b ≡ false) × (rest ≡ none)
first-none true n rest e = let z : ◌≡◌ {A = ℕ} 0 1 = cc in absurd (omega arith)
first-none false n rest e = (refl, e)

-- The address a, with the bias, lies in the object of the origin.
pub record Inside (D : List ℕ) (objects origin a : ℕ) : Type 0 where
  pub object : ℕ
  pub origin-is : origin ≡ suc object
  pub exists : object < objects
  pub above : low D object + bias ≤ a
  pub below : a < high D object + bias

pub inside-origin : (D : List ℕ) (objects origin a : ℕ) → Inside D objects origin a → in_origin D origin a ≡ true
unfolding in_origin
inside-origin D objects origin a i = rw (i.origin-is, le-leb _ _ i.above) (lt-ltb _ _ i.below)

-- The upper limit of an object.
pub limit-most : (b : Bool) (n : ℕ) → upper_limit b n ≤ n
unfolding upper_limit
limit-most true n = omega arith
limit-most false n = omega arith

pub limit-terminated : (b : Bool) (n : ℕ) → b ≡ true → upper_limit b n ≡ n - 1
unfolding upper_limit
limit-terminated true n e = refl
limit-terminated false n e = absurd (false≢true e)

-- An address that is not beyond the upper end.
inside-upper : (s : Bool) (u a : ℕ) → beyond s u a ≡ false → (a ≤ u) × (s ≡ false → a < u)
inside-upper true u a e = (ltb-false u a e, λ f. absurd (false≢true (sym f)))
inside-upper false u a e = let l : a < u = leb-false u a e in (omega arith, λ f. l)

-- What an access needs: the declared bounds of its pointer are true.
abbrev pub Ready : Environment → List ℕ → ℕ → Simple → Memory → Type 0
Ready E D objects (Literal x k) m = Unit {0}
Ready E D objects (AddConstant x y k) m = Unit {0}
Ready E D objects (Arithmetic x y z op) m = Unit {0}
Ready E D objects (Null p) m = Unit {0}
Ready E D objects (Address p o) m = Unit {0}
Ready E D objects (PointerOffset p q k) m = Unit {0}
Ready E D objects (PointerIndex p q i) m = Unit {0}
Ready E D objects (Load x p i k) m = TrueOf E D objects m p (declared E p)
Ready E D objects (Store p i k x) m = TrueOf E D objects m p (declared E p)
Ready E D objects (Check c) m = Unit {0}
Ready E D objects (Declare p r) m = Unit {0}

module _ (E : Environment) (D : List ℕ) (objects : ℕ) (m : Memory) (p : ℕ) (ends : DeclaredEnds E p) where
  -- The declared ends by their values.
  pub lower-value : lower_end E m.values p ≡ end_at (value m.values) (element_size E p) ends.low
  lower-value = rw ends.bounds

  pub upper-value : upper_end E m.values p ≡ end_at (value m.values) (element_size E p) ends.high
  upper-value = rw ends.bounds

  pub ends-inside : (l u : ℕ) → BoundsHold l u (declared E p) (value m.values) → (l ≤ lower_end E m.values p) × (upper_end E m.values p ≤ u)
  ends-inside l u b =
      let c : BoundsHold l u (record { size = element_size E p; lower = Some ends.low; upper = Some ends.high }) (value m.values) = rw
      ends.bounds at b in
      (omega (arith, c.lower.1, lower-value), omega (arith, c.upper.1, upper-value))

  -- What checks 2 and 3 say, where they do not fail.
  pub record Passed (a : ℕ) (rest : Failing) : Type 0 where
    pub some : value m.values p ≢ 0
    pub above : lower_end E m.values p ≤ a
    pub within : a ≤ upper_end E m.values p
    pub below : is_string E p ≡ false → a < upper_end E m.values p
    pub then : rest ≡ none

  pub passed : (a : ℕ) (rest : Failing) → access_failing E m.values p a rest ≡ none → Passed a rest
  unfolding access_failing
  passed a rest e =
      let u = upper_end E m.values p in
      let l = lower_end E m.values p in
      let first = first-none (eqb (value m.values p) 0) 2 (first_of (ltb a l || beyond (is_string E p) u a) 3 rest) e in
      let second = first-none (ltb a l || beyond (is_string E p) u a) 3 rest first.1 in
      let q = neither (ltb a l) (beyond (is_string E p) u a) second.0 in
      let w = inside-upper (is_string E p) u a q.1 in
      record { some = eqb-false (value m.values p) 0 first.0; above = ltb-false a l q.0; within = w.0; below = w.1; then = second.1 }

  -- The object of a pointer's bounds, which are true: its upper end by the kind of the object.
  upper-within : (i : InObject E.terminated D objects (is_string E p) (get_or m.origins p 0) (declared E p) (value m.values))
      → upper_end E m.values p ≤ upper_limit (is_terminated E i.object) (high D i.object) + bias
  upper-within i = (ends-inside _ _ i.bounds).1

  module _ (placed : (o : ℕ) → o < objects → 1 ≤ low D o) where
    pub access-inside : (a : ℕ) (rest : Failing) → access_failing E m.values p a rest ≡ none → TrueOf E D objects m p (declared E p)
        → Inside D objects (get_or m.origins p 0) a
    access-inside a rest e t = go t
      where
        w : Passed a rest
        w = passed a rest e

        go : TrueOf E D objects m p (declared E p) → Inside D objects (get_or m.origins p 0) a
        go (inl z) = absurd (w.some z)
        go (inr i) =
            record {
              object = i.object;
              origin-is = i.origin-is;
              exists = i.exists;
              above = omega (arith, (ends-inside _ _ i.bounds).0, w.above);
              below = by_kind (is_string E p) refl;
            }
          where
            by_kind : (s : Bool) → is_string E p ≡ s → a < high D i.object + bias
            by_kind true q = omega (
              arith,
              w.within,
              upper-within i,
              limit-terminated (is_terminated E i.object) (high D i.object) (i.ended q),
              placed i.object i.exists,
            )
            by_kind false q = omega (arith, w.below q, upper-within i, limit-most (is_terminated E i.object) (high D i.object))

    -- THE TERMINATOR IS NOT REACHED BUT AT THE UPPER END: an access at the last cell of a terminated object is at the upper end of its pointer, since no upper
    -- end goes beyond that cell; and that is a kind 2 pointer, since another may access only what is below its upper end.
    pub access-last : (a : ℕ) (rest : Failing) → access_failing E m.values p a rest ≡ none → TrueOf E D objects m p (declared E p)
        → (o : ℕ) → get_or m.origins p 0 ≡ suc o → is_terminated E o ≡ true → a + 1 ≡ high D o + bias → a ≡ upper_end E m.values p
    access-last a rest e t o q z l = go t
      where
        w : Passed a rest
        w = passed a rest e

        go : TrueOf E D objects m p (declared E p) → a ≡ upper_end E m.values p
        go (inl n) = absurd (w.some n)
        go (inr i) =
            let same : suc o ≡ suc i.object = sym q ∙ i.origin-is in
            let k : o ≡ i.object = omega arith in
            let u : upper_end E m.values p ≤ upper_limit (is_terminated E o) (high D o) + bias = rw k (upper-within i) in
            let some : 1 ≤ low D o = rw k (placed i.object i.exists) in
            omega (arith, w.within, limit-terminated (is_terminated E o) (high D o) z)

  -- What is stored at the upper end is 0, where check 6 does not fail.
  pub stored-zero : (a x : ℕ) → terminator_failing E m.values p a x ≡ none → a ≡ upper_end E m.values p → x ≡ 0
  unfolding terminator_failing
  stored-zero a x e q = go (eqb x 0) refl (first-none (eqb a (upper_end E m.values p) && not (eqb x 0)) 6 none e).0
    where
      go : (b : Bool) → eqb x 0 ≡ b → (eqb a (upper_end E m.values p) && not b) ≡ false → x ≡ 0
      go true z f = eqb-true x 0 z
      go false z f = let g : (true && not false) ≡ false = rw (eq-eqb a (upper_end E m.values p) q) at f in absurd (false≢true (sym g))

  -- ---- point 9: no check fails at an access that is shown safe

  -- What is shown of it, of the values.
  record Safe (a : ℕ) : Type 0 where
    some : 1 ≤ value m.values p
    above : lower_end E m.values p ≤ a
    below : a < upper_end E m.values p

  ends-pass : (f : FactSet) (i k : ℕ) → Holds f (value m.values) → InRange (value m.values) → p < 17 → i < 17
      → (shown f zero_var p (bias - 1)
      && (known_at_most f (element_size E p) (Some ends.low) (element_size E p) (Some (record { pointer = p; integer = i; constant = k }))
      && known_at_most f (element_size E p) (Some (record { pointer = p; integer = i; constant = k + 1 })) (element_size E p) (Some ends.high))) ≡ true
      → Safe (address E m.values p i k)
  unfolding bounds_rules.known_at_most
  ends-pass f i k h g hp hi t =
      let v : ℕ → ℕ = value m.values in
      let s : ℕ = element_size E p in
      let a : End = record { pointer = p; integer = i; constant = k } in
      let b : End = record { pointer = p; integer = i; constant = k + 1 } in
      let x = both (shown f zero_var p (bias - 1)) (end_at_most f s ends.low s a && end_at_most f s b s ends.high) t in
      let y = both (end_at_most f s ends.low s a) (end_at_most f s b s ends.high) x.1 in
      record {
        some = omega (arith, h zero_var p (bias - 1) (omega arith) hp x.0, g.zero_is);
        above = omega (arith, end_below f v h g s ends.low a ends.low-proper.pointer ends.low-proper.integer hp hi y.0, lower-value);
        below = omega (arith, end_below f v h g s b ends.high hp hi ends.high-proper.pointer ends.high-proper.integer y.1, upper-value);
      }

  safe-address : (f : FactSet) (i k : ℕ) → Holds f (value m.values) → InRange (value m.values) → p < 17 → i < 17
      → address_safe f p i k (declared E p) ≡ true → Safe (address E m.values p i k)
  unfolding bounds_rules.address_safe
  safe-address f i k h g hp hi t = let d = ends.bounds in ends-pass f i k h g hp hi (rw d at t)

  not_beyond : (s : Bool) (u a : ℕ) → a < u → beyond s u a ≡ false
  not_beyond true u a l = le-ltb u a (omega arith)
  not_beyond false u a l = lt-leb u a l

  module _ (a : ℕ) (w : Safe a) where
    passes : (rest : Failing) → access_failing E m.values p a rest ≡ rest
    unfolding access_failing
    passes rest =
        let e₁ : eqb (value m.values p) 0 ≡ false = ne_eqb (value m.values p) 0 (λ z. omega (arith, w.some)) in
        let e₂ : ltb a (lower_end E m.values p) ≡ false = le-ltb a (lower_end E m.values p) w.above in
        let e₃ : beyond (is_string E p) (upper_end E m.values p) a ≡ false = not_beyond (is_string E p) (upper_end E m.values p) a w.below in
        rw (e₁, e₂, e₃)

    below_end : (x : ℕ) → terminator_failing E m.values p a x ≡ none
    unfolding terminator_failing
    below_end x = rw (ne_eqb a (upper_end E m.values p) (λ z. omega (arith, w.below)))

  pub safe-load : (f : FactSet) (i k : ℕ) → Holds f (value m.values) → InRange (value m.values) → p < 17 → i < 17
      → address_safe f p i k (declared E p) ≡ true → load_failing E m.values p (address E m.values p i k) ≡ none
  safe-load f i k h g hp hi t = passes _ (safe-address f i k h g hp hi t) none

  pub safe-store : (f : FactSet) (i k x : ℕ) → Holds f (value m.values) → InRange (value m.values) → p < 17 → i < 17
      → address_safe f p i k (declared E p) ≡ true → store_failing E m.values p (address E m.values p i k) x ≡ none
  safe-store f i k x h g hp hi t = let w = safe-address f i k h g hp hi t in passes _ w _ ∙ below_end _ w x
