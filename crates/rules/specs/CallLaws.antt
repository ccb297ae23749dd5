-- Laws of calls: the callees are well formed, and what a call compares are ends in range, of the caller's variables.
use Prim.Native.Nat.{ℕ, zero, suc, ◌≤◌, ◌<◌}
use Rattle.std.specs.Prelude.{◌≡◌, refl, ◌⊎◌, false, not, ◌&&◌, ◌||◌, cond, List, [], eqb, ℤ, length, ltb, None, Option, Some}
use Rattle.std.proofs.Common.{sym, ap, ◌∙◌, arith, eqb-true, eq-eqb}
use Rattle.std.proofs.Math.Logic.{inl, inr}
use Rattle.std.proofs.Math.Bool.{Bool, true}
use Rattle.std.proofs.lemmas.Bool.{false≢true, not-false}
use Rattle.sums.specs.Numbers.{zero_var}
use Rattle.chains.specs.Facts.{Variables, Node}
use Rattle.words.specs.NameLaws.{either, implied}
use Rattle.words.specs.SectionsLaws.{both}
use Rattle.words.specs.declared.sections.Sections.{Sections}
use Rattle.statements.specs.Typed.{CallTyped, IsArgument, missing, given}
use Rattle.statements.specs.declared.CallSite.{CallSite}
use Rattle.table.specs.FormLaws.{Formed}
use Rattle.table.specs.declared.variables.End.{End}
use Rattle.facts.specs.declared.FactSet.{FactSet}
use Rattle.rules.specs.BoundsRules.{declared, row_bound, is_pointer, is_string}
use Rattle.rules.specs.Calls.{alike, kind_fits, bounds_fit, argument_fits, arguments_fit, in_order, last_integer, call_faults}
use Rattle.rules.specs.Stored.{store}
use Rattle.blocks.specs.LayoutLaws.{no-first, no-rest, passed}
use Rattle.rules.specs.declared.Bounds.{Bounds}
use Rattle.rules.specs.declared.Environment.{Environment}
use borrow.Author.Tests.{ltb-true}
use Rattle.rules.specs.Calls.{Routine, routine_at, argument, is_parameter, end_fits, argument_end, argument_bounds}
use Rattle.rules.specs.Verdict.{environment_of}
use Rattle.rules.specs.ByChains.{variables}
use Rattle.rules.specs.Fair.{FairKnown, FairBounds, number-fair}

-- A routine that causes 1 to 5 do not refuse.
pub record RoutineFormed (r : Routine) : Type 0 where
  pub formed : Formed r.table r.sections
  pub environment : r.environment ≡ environment_of r.table r.sections

abbrev pub AllFormed : List Routine → Type 0
AllFormed rs = (n : ℕ) → n < length rs → RoutineFormed (routine_at rs n)

-- A routine by itself calls none.
pub none-formed : AllFormed []
none-formed n l = absurd (omega arith)

module _ (T : List ℤ) (h : Sections) (c : CallSite) (typed : CallTyped T h c) where
  given_below : (v : ℕ) → IsArgument h v → not (eqb v zero_var) ≡ true → v < h.variables
  given_below v (missing e) q = absurd (false≢true (rw (eq-eqb v zero_var e) at q))
  given_below v (given l) q = l

  -- The argument of a parameter is one of the caller's variables.
  pub argument-below : (j : ℕ) → is_parameter c j ≡ true → argument c j < h.variables
  argument-below zero q = given_below c.first typed.first q
  argument-below (suc zero) q = given_below c.second typed.second q
  argument-below (suc (suc zero)) q = given_below c.third typed.third q
  argument-below (suc (suc (suc zero))) q = given_below c.fourth typed.fourth q
  argument-below (suc (suc (suc (suc j)))) q = absurd (false≢true q)

  -- The integer of an end: a missing one stays missing.
  pub integer-put : (x : ℕ) → (eqb x zero_var || is_parameter c x) ≡ true → (argument c x ≡ zero_var) ⊎ (argument c x < h.variables)
  integer-put x q = go (either (eqb x zero_var) (is_parameter c x) q)
    where
      go : (eqb x zero_var ≡ true) ⊎ (is_parameter c x ≡ true) → (argument c x ≡ zero_var) ⊎ (argument c x < h.variables)
      go (inl e) = inl (ap (argument c) (eqb-true x zero_var e))
      go (inr e) = inr (argument-below x e)

  module _ (vars : Variables) (count : h.variables ≤ vars.count) where
    end-put : (known-vars : Variables) (e : Option End) → end_fits c e ≡ true → FairKnown known-vars 0 e → FairKnown vars 0 (argument_end c e)
    unfolding end_fits argument_end
    end-put v None q f = tt
    end-put v (Some e) q f =
        let p = both (is_parameter c e.pointer) (eqb e.integer zero_var || is_parameter c e.integer) q in
        record {
          pointer = inr (omega (arith, argument-below e.pointer p.0, count));
          integer = go (integer-put e.integer p.1);
          low = f.low;
          high = f.high;
        }
      where
        go : {x : ℕ} → (x ≡ zero_var) ⊎ (x < h.variables) → Node vars x
        go (inl i) = inl i
        go (inr i) = inr (omega (arith, i, count))

    -- The bounds of a parameter with the arguments put in are in range.
    pub put-fair : (r : Routine) → RoutineFormed r → (j : ℕ) → end_fits c (declared r.environment j).lower ≡ true
        → end_fits c (declared r.environment j).upper ≡ true → FairBounds vars 0 (argument_bounds c (declared r.environment j))
    unfolding argument_bounds row_bound
    put-fair r g j p q =
        let e = g.environment in
        let f : FairBounds (variables r.table r.sections g.formed.limits) 0 (declared r.environment j) = rw e
        (number-fair r.table r.sections g.formed 0 j) in
        record {
          size = f.size;
          lower = end-put _ (declared r.environment j).lower p f.lower;
          upper = end-put _ (declared r.environment j).upper q f.upper;
        }

-- ---- what a call that is not refused says of each argument

alike_same : (a b : Bool) → alike a b ≡ true → a ≡ b
alike_same true b e = sym e
alike_same false b e = sym (not-true b e)
  where
    not-true : (b : Bool) → not b ≡ true → b ≡ false
    not-true true e = absurd (false≢true e)
    not-true false e = refl

module _ (E : Environment) (f : FactSet) (K : List Bounds) (r : Routine) (c : CallSite) where
  pub record Fits (j : ℕ) : Type 0 where
    pub below : j < r.sections.variables
    pub pointer : is_pointer E (argument c j) ≡ is_pointer r.environment j
    pub string : is_string E (argument c j) ≡ is_string r.environment j
    pub bounds : is_pointer r.environment j ≡ true → bounds_fit store f K r c j ≡ true

  one-fits : (j : ℕ) → argument_fits store E f K r c j ≡ true → is_parameter c j ≡ true → Fits j
  unfolding argument_fits kind_fits
  one-fits j e p =
      let a = both (kind_fits E (argument c j) r j) (not (is_pointer r.environment j) || bounds_fit store f K r c j) (implied (is_parameter c j) _ e p) in
      let k = both (ltb j r.sections.variables && alike (is_pointer E (argument c j)) (is_pointer r.environment j))
      (alike (is_string E (argument c j)) (is_string r.environment j)) a.0 in
      let l = both (ltb j r.sections.variables) (alike (is_pointer E (argument c j)) (is_pointer r.environment j)) k.0 in
      record {
        below = ltb-true j r.sections.variables l.0;
        pointer = alike_same _ _ l.1;
        string = alike_same _ _ k.1;
        bounds = implied (is_pointer r.environment j) _ a.1;
      }

  pub fits : arguments_fit store E f K r c ≡ true → (j : ℕ) → is_parameter c j ≡ true → Fits j
  unfolding arguments_fit
  fits e j p =
      let a : ℕ → Bool = λ i. argument_fits store E f K r c i in
      let t = both (in_order c && last_integer r && a 0 && a 1 && a 2) (a 3) e in
      let u = both (in_order c && last_integer r && a 0 && a 1) (a 2) t.0 in
      let v = both (in_order c && last_integer r && a 0) (a 1) u.0 in
      let w = both (in_order c && last_integer r) (a 0) v.0 in
      go j w.1 v.1 u.1 t.1 p
    where
      go : (j : ℕ) → argument_fits store E f K r c 0 ≡ true → argument_fits store E f K r c 1 ≡ true → argument_fits store E f K r c 2 ≡ true
          → argument_fits store E f K r c 3 ≡ true → is_parameter c j ≡ true → Fits j
      go zero w v u t p = one-fits 0 w p
      go (suc zero) w v u t p = one-fits 1 v p
      go (suc (suc zero)) w v u t p = one-fits 2 u p
      go (suc (suc (suc zero))) w v u t p = one-fits 3 t p
      go (suc (suc (suc (suc j)))) w v u t p = absurd (false≢true p)

-- A call that 19 and 20 do not refuse.
pub call-passed : (callees : List Routine) (E : Environment) (a : ℕ) (c : CallSite) (f : FactSet) (K : List Bounds) → call_faults store callees E a c f K ≡ []
    → (c.callee < length callees) × (arguments_fit store E f K (routine_at callees c.callee) c ≡ true)
unfolding call_faults
call-passed callees E a c f K e =
    (ltb-true _ _ (not-false _ (passed _ _ (no-first _ _ e))), not-false _ (passed _ _ (no-rest _ _ e)))
