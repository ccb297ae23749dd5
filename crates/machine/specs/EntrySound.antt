-- The paper's test of the bounds of a pointer says what the proofs carry; and what holds where a run is begun.
use Prim.Native.Nat.{ℕ, zero, suc, ◌+◌, ◌*◌, ◌≤◌, ◌<◌}
use Rattle.std.specs.Prelude.{◌≡◌, Bool, false, ◌||◌, ◌&&◌, not, List, eqb, ℤ, length}
use Rattle.std.proofs.Math.Path.{refl}
use Rattle.std.proofs.Common.{inl, arith}
use Rattle.std.proofs.Math.Logic.{inr}
use Rattle.std.proofs.Math.Bool.{true}
use Rattle.std.proofs.lemmas.Bool.{false≢true}
use borrow.Author.Tests.{leb-true, le-leb, ltb-true, lt-ltb, eqb-true, eq-eqb}
use Rattle.std.proofs.Math.Dec.{leb}
use Rattle.std.proofs.Math.ListN.{get_or, get_or-eq_default}
use Rattle.sums.specs.Numbers.{bias, zero_var}
use Rattle.arrays.specs.TabulateLaws.{length-tabulate}
use Rattle.chains.proofs.Sound.{InRange, new-holds}
use Rattle.words.specs.NameLaws.{implied}
use Rattle.words.specs.SectionsLaws.{both}
use Rattle.words.specs.declared.sections.Sections.{Sections}
use Rattle.rules.specs.BoundsRules.{declared, is_pointer, own_rows, in_force, is_string, is_terminated}
use Rattle.rules.specs.Stored.{new_state}
use Rattle.rules.specs.BoundsTrue.{BoundsHold, own-row, own-declared}
use Rattle.rules.specs.EnvironmentLaws.{Declares, DeclaredEnds, Named}
use Rattle.rules.specs.declared.Environment.{Environment}
use Rattle.machine.specs.Machine.{value, lower_end, upper_end, low, is_object, origin_holds, bounds_true, Memory, top, takes_from}
use Rattle.machine.specs.Soundness.{Begun}
use Rattle.machine.specs.Good.{TrueOf, Good}
use Rattle.machine.specs.AccessSound.{lower-value, upper-value, ends-inside}

or-second : (a b : Bool) → b ≡ true → (a || b) ≡ true
or-second true b e = refl
or-second false b e = e

-- The number of an object of the directory.
object_of : (D : List ℕ) (objects o : ℕ) → length D ≡ 2 * objects → is_object D o ≡ true → o < objects
object_of D objects o e t = omega (arith, ltb-true (2 * o + 1) (length D) t)

is-object : (D : List ℕ) (objects o : ℕ) → length D ≡ 2 * objects → o < objects → is_object D o ≡ true
is-object D objects o e l = lt-ltb (2 * o + 1) (length D) (omega arith)

-- A test that holds only where another one does; the other way is `implied`.
implies : (a b : Bool) → (a ≡ true → b ≡ true) → (not a || b) ≡ true
implies true b f = f refl
implies false b f = refl

module _ (E : Environment) (D : List ℕ) (objects : ℕ) (pairs : length D ≡ 2 * objects) (m : Memory) (p : ℕ) (ends : DeclaredEnds E p) where
  holds-inside : (o u : ℕ) → low D o + bias ≤ lower_end E m.values p → upper_end E m.values p ≤ u
      → BoundsHold (low D o + bias) u (declared E p) (value m.values)
  holds-inside o u l b =
      rw ends.bounds
      (record {
        lower = (ends.low-proper, omega (arith, lower-value E D objects m p ends));
        upper = (ends.high-proper, omega (arith, upper-value E D objects m p ends));
      })

  pub test-true : bounds_true E D m.values m.origins p ≡ true → TrueOf E D objects m p (declared E p)
  unfolding bounds_true origin_holds
  test-true e = null (eqb (value m.values p) 0) refl
    where
      origin : (o : ℕ) → get_or m.origins p 0 ≡ o → origin_holds E D p o (lower_end E m.values p) (upper_end E m.values p) ≡ true
          → TrueOf E D objects m p (declared E p)
      origin zero q t = absurd (false≢true t)
      origin (suc o) q t =
          let a = both (is_object D o && takes_from E p o && leb (low D o + bias) (lower_end E m.values p))
          (leb (upper_end E m.values p) (top E D o + bias)) t in
          let b = both (is_object D o && takes_from E p o) (leb (low D o + bias) (lower_end E m.values p)) a.0 in
          let c = both (is_object D o) (takes_from E p o) b.0 in
          inr (record {
            object = o;
            origin-is = q;
            exists = object_of D objects o pairs c.0;
            ended = implied (is_string E p) (is_terminated E o) c.1;
            bounds = holds-inside o (top E D o + bias) (leb-true _ _ b.1) (leb-true _ _ a.1);
          })

      null : (b : Bool) → eqb (value m.values p) 0 ≡ b → TrueOf E D objects m p (declared E p)
      null true q = inl (eqb-true _ _ q)
      null false q = origin (get_or m.origins p 0) refl (rw q at e)

  pub true-test : TrueOf E D objects m p (declared E p) → bounds_true E D m.values m.origins p ≡ true
  unfolding bounds_true origin_holds
  true-test (inl z) = rw (eq-eqb (value m.values p) 0 z)
  true-test (inr i) =
      let b = ends-inside E D objects m p ends _ _ i.bounds in
      or-second (eqb (value m.values p) 0) (origin_holds E D p (get_or m.origins p 0) (lower_end E m.values p) (upper_end E m.values p))
      (rw (i.origin-is, is-object D objects i.object pairs i.exists, implies (is_string E p) (is_terminated E i.object) i.ended, le-leb _ _ b.0)
      (le-leb _ _ b.1))

-- The rows in force do not change the kinds of pointers and objects.
origin-in-force : (E : Environment) (R D : List ℕ) (p o l u : ℕ) → origin_holds (in_force E R) D p o l u ≡ origin_holds E D p o l u
unfolding origin_holds
origin-in-force E R D p zero l u = refl
origin-in-force E R D p (suc o) l u = refl

module _ (T : List ℤ) (h : Sections) (E : Environment) (D cs vs os : List ℕ) (declares : Declares T h E) (b : Begun h E D cs vs os) where
  begun-range : InRange (value vs)
  begun-range =
      let short : length vs ≤ zero_var = omega (arith, b.values-long, declares.few) in
      record { zero_is = get_or-eq_default vs 0 short; below = b.values-small }

  own-named : Named h own_rows
  own-named p = omega (arith, own-row p)

  -- At entry the environment itself is in force.
  own-true : (p : ℕ) → is_pointer E p ≡ true → bounds_true (in_force E own_rows) D vs os p ≡ true
  unfolding bounds_true
  own-true p t =
      rw (
        own-declared E p (omega (arith, declares.few, declares.below p t)),
        origin-in-force E own_rows D p (get_or os p 0) (lower_end E vs p) (upper_end E vs p),
      ) (b.bounds p t)

  pub begun-good : Good h E D (length cs) new_state (in_force E own_rows).declared (record { cells = cs; values = vs; origins = os; rows = own_rows })
  begun-good =
      record {
        facts = new-holds (value vs) begun-range;
        rows = refl;
        named = own-named;
        bounds =
            λ p t.
            test-true (in_force E own_rows) D h.objects b.pairs (record { cells = cs; values = vs; origins = os; rows = own_rows }) p
            (declares.ends own_rows own-named p t) (own-true p t);
        steady =
            record {
              range = begun-range;
              values-long = b.values-long;
              origins-long = b.origins-long;
              rows_long = length-tabulate {A = ℕ} 16 (λ x. 0);
              cells-long = refl;
              cells-small = b.cells-small;
            };
        last-zero = b.last-zero;
      }
