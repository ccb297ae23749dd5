-- The frame law: a step of two points alike on R's objects gives points alike on them, and touches no cell elsewhere. Then runs.
use Rattle.statements.specs.declared.Statement.{Statement}
use Prim.Native.Nat.{ℕ, zero, suc, ◌+◌, ◌-◌, ◌≤◌}
use Rattle.std.proofs.Math.Path.{◌≡◌, refl}
use Rattle.std.proofs.Common.{sym, ap, subst, ◌∙◌, inl, inr, get_or-set_other}
use Rattle.std.specs.Prelude.{◌⊎◌, Bool, List, [], ◌∷◌, leb, ltb, ℤ, length, get_or, None, Option, Some}
use Rattle.std.proofs.Math.Bool.{true, false}
use native.Mathlib.Omega.{arith}
use borrow.Author.Tests.{leb-true, ltb-true}
use Rattle.std.proofs.Math.ListN.{set, length-set}
use Rattle.sums.specs.Numbers.{bias}
use Rattle.words.specs.SectionsLaws.{both}
use Rattle.words.specs.declared.sections.Sections.{Sections}
use Rattle.statements.specs.Statements.{statement_at}
use Rattle.statements.specs.StatementLaws.{read-typed}
use Rattle.statements.specs.declared.Simple.{Simple}
use Rattle.statements.specs.declared.Simple.TheVariants.{Literal, AddConstant, Arithmetic, Null, Address}
use Rattle.statements.specs.declared.Simple.TheVariants.{PointerOffset, PointerIndex, Load, Store, Check, Declare}
use Rattle.statements.specs.declared.Statement.TheVariants.{Plain, If, While, Bundle, Call}
use Rattle.blocks.specs.Flow.{Successors}
use Rattle.rules.specs.BoundsRules.{in_force}
use Rattle.rules.specs.declared.Environment.{Environment}
use Rattle.machine.specs.Machine.{value, low, high, in_origin, address, Failing, none, fails, failing, condition_holds, Status}
use Rattle.machine.specs.Machine.{going, stopped, stuck, Point, done, set_integer, step_if, performed, memory_of, moved}
use Rattle.machine.specs.Machine.{after_performed, after_checks, branched, statement_step, step_if_due, next_point}
use Rattle.machine.specs.AlonePoints.{point_after}
use Rattle.machine.specs.Points.{Outside, CellOf}
use Rattle.machine.specs.Frame.{Elsewhere, Names, Origins, SameCells, with_cells, Alike, Framed, Own}

-- ---- lists

-- A list after a store has at each place what was stored or what it had.
set_cases : (l : List ℕ) (j v i : ℕ) → (get_or (set l j v) i 0 ≡ v) ⊎ (get_or (set l j v) i 0 ≡ get_or l i 0)
set_cases [] j v i = inr refl
set_cases (x ∷ xs) zero v zero = inl refl
set_cases (x ∷ xs) zero v (suc i) = inr refl
set_cases (x ∷ xs) (suc j) v zero = inr refl
set_cases (x ∷ xs) (suc j) v (suc i) = set_cases xs j v i

-- The same store into two lists of one length.
set_both : (l m : List ℕ) (j v i : ℕ) → length l ≡ length m → get_or l i 0 ≡ get_or m i 0 → get_or (set l j v) i 0 ≡ get_or (set m j v) i 0
set_both [] [] j v i n e = refl
set_both [] (y ∷ ys) j v i n e = absurd (omega arith)
set_both (x ∷ xs) [] j v i n e = absurd (omega arith)
set_both (x ∷ xs) (y ∷ ys) zero v zero n e = refl
set_both (x ∷ xs) (y ∷ ys) zero v (suc i) n e = e
set_both (x ∷ xs) (y ∷ ys) (suc j) v zero n e = e
set_both (x ∷ xs) (y ∷ ys) (suc j) v (suc i) n e = set_both xs ys j v i (omega arith) e

-- ---- memories

module _ (D : List ℕ) (R : ℕ → Type 0) where
  set_same : (cs ds : List ℕ) (j v : ℕ) → SameCells D R cs ds → SameCells D R (set cs j v) (set ds j v)
  set_same cs ds j v s = record {
    long = length-set cs j v ∙ s.long ∙ sym (length-set ds j v);
    cells = λ i c. set_both cs ds j v i s.long (s.cells i c);
  }

  -- An address in the object of an origin of R is a cell of R's objects.
  origin-cell : (origin a : ℕ) → ((o : ℕ) → origin ≡ suc o → R o) → in_origin D origin a ≡ true → CellOf D R (a - bias)
  unfolding in_origin
  origin-cell zero a r e = let z : ◌≡◌ {A = ℕ} 0 1 = cc in absurd (omega arith)
  origin-cell (suc o) a r e =
      let t = both (leb (low D o + bias) a) (ltb a (high D o + bias)) e in
      record {
        object = o;
        chosen = r o refl;
        above = omega (arith, leb-true (low D o + bias) a t.0);
        below = omega (arith, leb-true (low D o + bias) a t.0, ltb-true a (high D o + bias) t.1);
      }

  -- A store into a cell of R's objects leaves the others.
  set-elsewhere : (cs : List ℕ) (j v i : ℕ) → CellOf D R j → Elsewhere D R i → get_or (set cs j v) i 0 ≡ get_or cs i 0
  set-elsewhere cs j v i c e = get_or-set_other cs j i v 0 (λ q. e (rw q c))

  set-origins : (os : List ℕ) (p v : ℕ) → Origins R os → ((o : ℕ) → v ≡ suc o → R o) → Origins R (set os p v)
  set-origins os p v r s x o e = go (set_cases os p v x)
    where
      go : (get_or (set os p v) x 0 ≡ v) ⊎ (get_or (set os p v) x 0 ≡ get_or os x 0) → R o
      go (inl q) = s o (sym q ∙ e)
      go (inr q) = r x o (sym q ∙ e)

-- ---- one step

module _ (D : List ℕ) (R : ℕ → Type 0) where
  pub alike-with : (P : Point) (ds : List ℕ) → SameCells D R P.cells ds → Alike D R P (with_cells P ds)
  alike-with P ds s = record { rest = refl; memory = s }

  pub framed-trans : (P Q S : Point) → Framed D R P Q → Framed D R Q S → Framed D R P S
  framed-trans P Q S a b = record { origins = b.origins; long = b.long ∙ a.long; elsewhere = λ i e. b.elsewhere i e ∙ a.elsewhere i e }

  pub framed-none : (P Q : Point) → Origins R P.origins → Q.origins ≡ P.origins → Q.cells ≡ P.cells → Framed D R P Q
  framed-none P Q r o c = record { origins = rw o r; long = ap length c; elsewhere = λ i e. ap (λ (l : List ℕ). get_or l i 0) c }

  module _ (E : Environment) (P : Point) (origins : Origins R P.origins) where
    -- The object that a pointer's access is in is one of R.
    reached : (p a : ℕ) → in_origin D (get_or P.origins p 0) a ≡ true → CellOf D R (a - bias)
    reached p a e = origin-cell D R (get_or P.origins p 0) a (origins p) e

    -- A step touches no cell elsewhere, and its origins stay in R.
    framed-values : (vs os rs : List ℕ) (n : ℕ) → Origins R os → Framed D R P (moved P (record { cells = P.cells; values = vs; origins = os; rows = rs }) n)
    framed-values vs os rs n r = record { origins = r; long = refl; elsewhere = λ i e. refl }

    simple-framed : (s : Simple) (n : ℕ) → ((p o : ℕ) → s ≡ Address p o → R o) → Framed D R P (after_performed P n (performed E D s (memory_of P)))
    unfolding performed
    simple-framed (Literal x k) n named = framed-values _ _ _ n origins
    simple-framed (AddConstant x y k) n named = framed-values _ _ _ n origins
    simple-framed (Arithmetic x y z op) n named = framed-values _ _ _ n origins
    simple-framed (Null p) n named = framed-values _ _ _ n (set-origins D R P.origins p 0 origins (λ o e. absurd (omega arith)))
    simple-framed (Address p o) n named =
        framed-values _ _ _ n (set-origins D R P.origins p (o + 1) origins (λ k e. let q : k ≡ o = omega arith in rw q (named p o refl)))
    simple-framed (PointerOffset p q k) n named = framed-values _ _ _ n (set-origins D R P.origins p _ origins (origins q))
    simple-framed (PointerIndex p q i) n named = framed-values _ _ _ n (set-origins D R P.origins p _ origins (origins q))
    simple-framed (Load x p i k) n named = go (in_origin D (get_or P.origins p 0) (address E P.values p i k))
      where
        go : (b : Bool) → Framed D R P (after_performed P n (step_if b (set_integer (memory_of P) x (get_or P.cells (address E P.values p i k - bias) 0))))
        go true = framed-values _ _ _ n origins
        go false = framed-none P _ origins refl refl
    simple-framed (Store p i k x) n named = go (in_origin D (get_or P.origins p 0) (address E P.values p i k)) refl
      where
        go : (b : Bool) → in_origin D (get_or P.origins p 0) (address E P.values p i k) ≡ b
            → Framed D R P (after_performed P n (step_if b (done (record {
              cells = set P.cells (address E P.values p i k - bias) (value P.values x);
              values = P.values;
              origins = P.origins;
              rows = P.rows;
            }))))
        go true e = record {
          origins = origins;
          long = length-set P.cells _ _;
          elsewhere = λ j f. set-elsewhere D R P.cells _ _ j (reached p (address E P.values p i k) e) f;
        }
        go false e = framed-none P _ origins refl refl
    simple-framed (Check c) n named = framed-none P _ origins refl refl
    simple-framed (Declare p r) n named = framed-values _ _ _ n origins

    checked-framed : (f : Failing) (s : Simple) (n : ℕ) → ((p o : ℕ) → s ≡ Address p o → R o)
        → Framed D R P (after_checks f P n (performed E D s (memory_of P)))
    checked-framed (fails k) s n named = framed-none P _ origins refl refl
    checked-framed none s n named = simple-framed s n named

    branched-framed : (b : Bool) (n : Successors) → Framed D R P (branched b P n)
    branched-framed true n = framed-none P _ origins refl refl
    branched-framed false n = framed-none P _ origins refl refl

    step-framed : (r : Option Statement) (n : Successors) → ((p o : ℕ) → r ≡ Some (Plain (Address p o)) → R o) → Framed D R P (statement_step E D r n P)
    unfolding statement_step
    step-framed (Some (Plain s)) n named =
        checked-framed (failing (in_force E P.rows) P.values s) s n.next (λ p o e. named p o (ap (λ (q : Simple). Some (Plain q)) e))
    step-framed (Some (If c x y)) n named = branched-framed (condition_holds P.values c) n
    step-framed (Some (While c x)) n named = branched-framed (condition_holds P.values c) n
    step-framed (Some (Bundle x)) n named = framed-none P _ origins refl refl
    step-framed (Some (Call c)) n named = framed-none P _ origins refl refl
    step-framed None n named = framed-none P _ origins refl refl

    -- Steps of two points alike are alike.
    module _ (ds : List ℕ) (same : SameCells D R P.cells ds) where
      abbrev other : Point
      other = with_cells P ds

      simple-alike : (s : Simple) (n : ℕ)
          → Alike D R (after_performed P n (performed E D s (memory_of P))) (after_performed other n (performed E D s (memory_of other)))
      unfolding performed
      simple-alike (Literal x k) n = alike-with _ ds same
      simple-alike (AddConstant x y k) n = alike-with _ ds same
      simple-alike (Arithmetic x y z op) n = alike-with _ ds same
      simple-alike (Null p) n = alike-with _ ds same
      simple-alike (Address p o) n = alike-with _ ds same
      simple-alike (PointerOffset p q k) n = alike-with _ ds same
      simple-alike (PointerIndex p q i) n = alike-with _ ds same
      simple-alike (Load x p i k) n = go (in_origin D (get_or P.origins p 0) (address E P.values p i k)) refl
        where
          go : (b : Bool) → in_origin D (get_or P.origins p 0) (address E P.values p i k) ≡ b
              → Alike D R (after_performed P n (step_if b (set_integer (memory_of P) x (get_or P.cells (address E P.values p i k - bias) 0))))
              (after_performed other n (step_if b (set_integer (memory_of other) x (get_or ds (address E P.values p i k - bias) 0))))
          go true e = rw (same.cells _ (reached p (address E P.values p i k) e)) (alike-with _ ds same)
          go false e = alike-with _ ds same
      simple-alike (Store p i k x) n = go (in_origin D (get_or P.origins p 0) (address E P.values p i k))
        where
          go : (b : Bool)
              → Alike D R (after_performed P n (step_if b (done (record {
                cells = set P.cells (address E P.values p i k - bias) (value P.values x);
                values = P.values;
                origins = P.origins;
                rows = P.rows;
              }))))
              (after_performed other n
              (step_if b (done (record {
                cells = set ds (address E P.values p i k - bias) (value P.values x);
                values = P.values;
                origins = P.origins;
                rows = P.rows;
              }))))
          go true = alike-with _ _ (set_same D R P.cells ds _ _ same)
          go false = alike-with _ ds same
      simple-alike (Check c) n = alike-with _ ds same
      simple-alike (Declare p r) n = alike-with _ ds same

      checked-alike : (f : Failing) (s : Simple) (n : ℕ)
          → Alike D R (after_checks f P n (performed E D s (memory_of P))) (after_checks f other n (performed E D s (memory_of other)))
      checked-alike (fails k) s n = alike-with _ ds same
      checked-alike none s n = simple-alike s n

      branched-alike : (b : Bool) (n : Successors) → Alike D R (branched b P n) (branched b other n)
      branched-alike true n = alike-with _ ds same
      branched-alike false n = alike-with _ ds same

      step-alike : (r : Option Statement) (n : Successors) → Alike D R (statement_step E D r n P) (statement_step E D r n other)
      unfolding statement_step
      step-alike (Some (Plain s)) n = checked-alike (failing (in_force E P.rows) P.values s) s n.next
      step-alike (Some (If c x y)) n = branched-alike (condition_holds P.values c) n
      step-alike (Some (While c x)) n = branched-alike (condition_holds P.values c) n
      step-alike (Some (Bundle x)) n = alike-with _ ds same
      step-alike (Some (Call c)) n = alike-with _ ds same
      step-alike None n = alike-with _ ds same

-- ---- THE FRAME LAW

module _ (T : List ℤ) (h : Sections) (E : Environment) (D : List ℕ) (R : ℕ → Type 0) (names : Names T h R) where
  -- A step touches only cells of R's objects.
  pub next-framed : (s : Status) (P : Point) → Origins R P.origins → Framed D R P (next_point T h E D s P)
  unfolding next_point
  next-framed going P r = go (ltb P.due h.statements)
    where
      go : (b : Bool) → Framed D R P (step_if_due T h E D b P)
      go true = step-framed D R E P r (statement_at T h P.due) _ (λ p o e. names P.due p o e)
      go false = framed-none D R P P r refl refl
  next-framed (stopped n) P r = framed-none D R P P r refl refl
  next-framed stuck P r = framed-none D R P P r refl refl

  -- A step reads only cells of R's objects: points alike step to points alike.
  with-next : (s : Status) (P : Point) (ds : List ℕ) → Origins R P.origins → SameCells D R P.cells ds
      → Alike D R (next_point T h E D s P) (next_point T h E D s (with_cells P ds))
  unfolding next_point
  with-next going P ds r same = go (ltb P.due h.statements)
    where
      go : (b : Bool) → Alike D R (step_if_due T h E D b P) (step_if_due T h E D b (with_cells P ds))
      go true = step-alike D R E P r ds same (statement_at T h P.due) _
      go false = alike-with D R P ds same
  with-next (stopped n) P ds r same = alike-with D R P ds same
  with-next stuck P ds r same = alike-with D R P ds same

  pub next-alike : (P Q : Point) → Origins R P.origins → Alike D R P Q → Alike D R (next_point T h E D P.status P) (next_point T h E D Q.status Q)
  next-alike P Q r a =
      subst (λ (S : Point). Alike D R (next_point T h E D P.status P) (next_point T h E D S.status S)) a.rest
      (with-next P.status P Q.cells r a.memory)

  -- ---- runs

  pub run_framed : (t : ℕ) (P : Point) → Origins R P.origins → Framed D R P (point_after T h E D t P)
  unfolding point_after
  run_framed zero P r = framed-none D R P P r refl refl
  run_framed (suc t) P r =
      let f = run_framed t P r in
      framed-trans D R P (point_after T h E D t P) _ f (next-framed (point_after T h E D t P).status (point_after T h E D t P) f.origins)

  pub run-alike : (t : ℕ) (P Q : Point) → Origins R P.origins → Alike D R P Q → Alike D R (point_after T h E D t P) (point_after T h E D t Q)
  unfolding point_after
  run-alike zero P Q r a = a
  run-alike (suc t) P Q r a = next-alike (point_after T h E D t P) (point_after T h E D t Q) (run_framed t P r).origins (run-alike t P Q r a)

-- ---- a run that is continued, and turns

pub same-trans : (D : List ℕ) (R : ℕ → Type 0) (cs ds es : List ℕ) → SameCells D R cs ds → SameCells D R ds es → SameCells D R cs es
same-trans D R cs ds es a b = record { long = a.long ∙ b.long; cells = λ i c. a.cells i c ∙ b.cells i c }

pub continued : (T : List ℤ) (h : Sections) (E : Environment) (D : List ℕ) (a b : ℕ) (P : Point)
    → point_after T h E D (a + b) P ≡ point_after T h E D b (point_after T h E D a P)
unfolding point_after
continued T h E D a zero P = let q : a + 0 ≡ a = omega arith in ap (λ (n : ℕ). point_after T h E D n P) q
continued T h E D a (suc b) P =
    let q : a + suc b ≡ suc (a + b) = omega arith in
    ap (λ (n : ℕ). point_after T h E D n P) q ∙ ap (λ (Q : Point). next_point T h E D Q.status Q) (continued T h E D a b P)

module _ (T : List ℤ) (h : Sections) (E : Environment) (D : List ℕ) (R : ℕ → Type 0) (names : Names T h R) (P : Point) (origins : Origins R P.origins) where
  -- One turn of n steps, from a point alike to where the run by itself stands after t steps.
  pub turn-alike : (t n : ℕ) (Q : Point) → Alike D R (point_after T h E D t P) Q → Alike D R (point_after T h E D (t + n) P) (point_after T h E D n Q)
  turn-alike t n Q a =
      rw (continued T h E D t n P) (run-alike T h E D R names n (point_after T h E D t P) Q (run_framed T h E D R names t P origins).origins a)

  -- Such a turn touches no cell elsewhere: the others' cells are as they were.
  pub turn-framed : (t n : ℕ) (Q : Point) → Alike D R (point_after T h E D t P) Q → Framed D R Q (point_after T h E D n Q)
  turn-framed t n Q a =
      run_framed T h E D R names n Q (subst (λ (X : Point). Origins R X.origins) a.rest (run_framed T h E D R names t P origins).origins)

-- ---- a set that holds all that a run can reach

-- All objects of the routine.
pub own-names : (T : List ℤ) (h : Sections) → Names T h (Own h)
own-names T h a p o e = (read-typed T h a (Plain (Address p o)) e).object

pub own-origins : (h : Sections) (os : List ℕ) → ((v : ℕ) → get_or os v 0 ≤ h.objects) → Origins (Own h) os
own-origins h os l v o e = omega (arith, l v)

-- "No cell outside the objects has changed."
pub outside-own : (h : Sections) (D : List ℕ) (i : ℕ) → Outside D h.objects i → Elsewhere D (Own h) i
outside-own h D i o c = o c.object c.chosen c.above c.below
