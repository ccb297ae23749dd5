-- The ends that the rules compare are in range: they name variables, and their constants are those of a table or an object's length, moved at most 16 times.
use Rattle.table.specs.declared.variables.BoundsRow.{BoundsRow}
use Rattle.table.specs.declared.variables.Variable.{Variable}
use Prim.Native.Nat.{ℕ, ◌+◌, ◌-◌, ◌*◌, ◌^◌, ◌≤◌, ◌<◌, zero, suc}
use Rattle.std.specs.Prelude.{◌≡◌, Bool, ◌&&◌, cond, List, ℤ, get_or, None, Option, Some}
use Rattle.std.proofs.Math.Path.{refl}
use Rattle.std.proofs.Math.Logic.{inl, inr}
use Rattle.std.proofs.Math.Bool.{true, false}
use native.Mathlib.Omega.{arith}
use borrow.Author.Tests.{lt-ltb, le-leb, ltb-true, ltb-false}
use Rattle.std.proofs.Math.Dec.{eqb, ltb}
use Rattle.std.proofs.Math.ListN.{length, get_or-eq_default}
use Rattle.std.proofs.Common.{mul-add}
use Rattle.sums.specs.Numbers.{bias}
use Rattle.sums.specs.Scale.{scale}
use Rattle.arrays.specs.Choice.{cond_either}
use Rattle.arrays.specs.Tabulate.{tabulate}
use Rattle.arrays.specs.TabulateLaws.{length-tabulate, get_d_tabulate}
use Rattle.facts.specs.Store.{in_range}
use Rattle.chains.specs.Facts.{Variables, Node}
use Rattle.facts.specs.declared.FactSet.{FactSet}
use Rattle.words.specs.Sections.{object_terminated}
use Rattle.words.specs.Typed.{IsIndex, missing, given, IsSmall}
use Rattle.words.specs.declared.sections.Sections.{Sections}
use Rattle.statements.specs.Typed.{SimpleTyped}
use Rattle.statements.specs.declared.Simple.{Simple}
use Rattle.statements.specs.declared.Simple.TheVariants.{Literal, AddConstant, Arithmetic, Null, Address}
use Rattle.statements.specs.declared.Simple.TheVariants.{PointerOffset, PointerIndex, Load, Store, Check, Declare}
use Rattle.table.specs.Variables.{variable_at, object_at, row_at}
use Rattle.table.specs.VariableLaws.{variable-read-typed, row-read-typed}
use Rattle.table.specs.Typed.{EndTyped}
use Rattle.table.specs.declared.variables.End.{End}
use Rattle.table.specs.declared.variables.Variable.TheVariants.{Integer, Pointer}
use Rattle.table.specs.FormLaws.{Formed}
use Rattle.rules.specs.BoundsRules.{nothing_known, known, names, forget_end, forget_bounds, object_bounds}
use Rattle.rules.specs.BoundsRules.{effect, row_bound, declared, in_force, weight, object_span, upper_limit}
use Rattle.rules.specs.Verdict.{bounds_of, environment_of, row_bounds}
use Rattle.rules.specs.EnvironmentLaws.{sizes-small}
use Rattle.rules.specs.Stored.{store, shift_constant, shift_end, shift_bounds, effect_on, bounds_after}
use Rattle.rules.specs.BoundsRules as bounds_rules
use Rattle.rules.specs.ByChains.{variables}
use Rattle.rules.specs.declared.Bounds.{Bounds}
use Rattle.rules.specs.declared.Effect.{Effect}
use Rattle.rules.specs.declared.Effect.TheVariants.{Keep, Forget, Shift, Copy, Object}

-- An end after at most n statements: it names variables, and its constant is that of a table or an object's length, moved n times by at most 8 times 65,536.
pub record FairEnd (vars : Variables) (n : ℕ) (e : End) : Type 0 where
  pub pointer : Node vars e.pointer
  pub integer : Node vars e.integer
  pub low : bias ≤ e.constant + 65536 + n * 524288
  pub high : e.constant ≤ bias + 1000000 + n * 524288

abbrev pub FairKnown : Variables → ℕ → Option End → Type 0
FairKnown vars n None = Unit
FairKnown vars n (Some e) = FairEnd vars n e

pub record FairBounds (vars : Variables) (n : ℕ) (b : Bounds) : Type 0 where
  pub size : b.size ≤ 8
  pub lower : FairKnown vars n b.lower
  pub upper : FairKnown vars n b.upper

-- The known bounds of every pointer.
abbrev pub FairAll : Variables → ℕ → List Bounds → Type 0
FairAll vars n K = (p : ℕ) → FairBounds vars n (known K p)

-- A weight is at most 8.
pub weight-small : (s v : ℕ) (e : End) → s ≤ 8 → weight s v e ≤ 8
unfolding weight
weight-small s v e l = go (eqb e.pointer v)
  where
    go : (b : Bool) → cond b 1 s ≤ 8
    go true = omega arith
    go false = l

module _ (vars : Variables) where
  nothing-fair : (n : ℕ) → FairBounds vars n nothing_known
  nothing-fair n = record { size = omega arith; lower = tt; upper = tt }

  -- ---- effects keep ends in range

  later-end : (n m : ℕ) (e : Option End) → n ≤ m → FairKnown vars n e → FairKnown vars m e
  later-end n m None l p = tt
  later-end n m (Some e) l p = record { pointer = p.pointer; integer = p.integer; low = omega (arith, p.low); high = omega (arith, p.high) }

  pub later : (n m : ℕ) (b : Bounds) → n ≤ m → FairBounds vars n b → FairBounds vars m b
  later n m b l p = record { size = p.size; lower = later-end n m b.lower l p.lower; upper = later-end n m b.upper l p.upper }

  more : (n : ℕ) (e : Option End) → FairKnown vars n e → FairKnown vars (n + 1) e
  more n e p = later-end n (n + 1) e (omega arith) p

  forgotten : (n v : ℕ) (e : Option End) → FairKnown vars n e → FairKnown vars (n + 1) (forget_end v e)
  unfolding forget_end
  forgotten n v None p = tt
  forgotten n v (Some e) p = go (names e v)
    where
      go : (b : Bool) → FairKnown vars (n + 1) (cond b None (Some e))
      go true = tt
      go false = more n (Some e) p

  -- The constant of an end in range is moved as the paper says: the tests of `shift_constant` hold.
  pub constant-moved : (n w k : ℕ) (e : End) → n ≤ 16 → w ≤ 8 → FairEnd vars n e → IsSmall k
      → shift_constant w k e ≡ Some (record { pointer = e.pointer; integer = e.integer; constant = e.constant + w * bias - w * k })
  unfolding shift_constant
  constant-moved n w k e l m p s =
      let small : k < 2 ^ 40 = omega (arith, s.high) in
      let moved : w * k ≤ w * (bias + 65536) = scale w (omega (arith, s.high)) in
      rw (
        le-leb w 8 m,
        lt-ltb k (2 ^ 40) small,
        lt-ltb e.constant (2 ^ 40) (omega (arith, p.high)),
        le-leb (w * k) (e.constant + w * bias) (omega (arith, p.low)),
      )

  moved : (n s v k : ℕ) (e : Option End) → n ≤ 16 → s ≤ 8 → IsSmall k → FairKnown vars n e → FairKnown vars (n + 1) (shift_end s v k e)
  unfolding bounds_rules.shift_end
  moved n s v k None l m t p = tt
  moved n s v k (Some e) l m t p = go (names e v)
    where
      few : weight s v e ≤ 8
      few = weight-small s v e m

      up : weight s v e * k ≤ weight s v e * (bias + 65536)
      up = scale (weight s v e) (omega (arith, t.high))

      down : weight s v e * bias ≤ weight s v e * (k + 65536)
      down = scale (weight s v e) (omega (arith, t.low))

      go : (b : Bool) → FairKnown vars (n + 1) (cond b (shift_constant (weight s v e) k e) (Some e))
      go true = rw (constant-moved n (weight s v e) k e l few p t) (record {
        pointer = p.pointer;
        integer = p.integer;
        low = let u : weight s v e * k ≤ weight s v e * (bias + 65536) = up in let m : weight s v e ≤ 8 = few in omega (arith, p.low);
        high = omega (arith, p.high, down, few, mul-add (weight s v e) k 65536);
      })
      go false = more n (Some e) p

  abbrev pub FairEffect : Effect → Type 0
  FairEffect Keep = Unit
  FairEffect (Forget v) = Unit
  FairEffect (Shift v k) = IsSmall k
  FairEffect (Copy v q) = Unit
  FairEffect (Object v s m) = (v < vars.count) × (m ≤ 1000000) × (s ≤ 8)

  forget-fair : (n v : ℕ) {b : Bounds} → FairBounds vars n b → FairBounds vars (n + 1) (forget_bounds v b)
  unfolding forget_bounds
  forget-fair n v p = record { size = p.size; lower = forgotten n v _ p.lower; upper = forgotten n v _ p.upper }

  object-fair : (n v s m : ℕ) → v < vars.count → m ≤ 1000000 → s ≤ 8 → FairBounds vars n (object_bounds v s m)
  unfolding object_bounds
  object-fair n v s m h l z = record {
    size = z;
    lower = record { pointer = inr h; integer = inl refl; low = omega arith; high = omega arith };
    upper = record { pointer = inr h; integer = inl refl; low = omega arith; high = omega arith };
  }

  effect-fair : (n : ℕ) (e : Effect) (L : List Bounds) → n ≤ 16 → FairEffect e → FairAll vars n L → (p : ℕ) → FairBounds vars (n + 1) (effect_on e L p)
  unfolding bounds_rules.effect_on bounds_rules.shift_bounds
  effect-fair n Keep L l g a p = record { size = (a p).size; lower = more n (known L p).lower (a p).lower; upper = more n (known L p).upper (a p).upper }
  effect-fair n (Forget v) L l g a p = forget-fair n v (a p)
  effect-fair n (Shift v k) L l g a p =
      let s = (known L p).size in
      record { size = (a p).size; lower = moved n s v k _ l (a p).size g (a p).lower; upper = moved n s v k _ l (a p).size g (a p).upper }
  effect-fair n (Copy v q) L l g a p = forget-fair n v (cond_either (FairBounds vars n) (eqb p v) _ _ (a q) (a p))
  effect-fair n (Object v s m) L l g a p =
      cond_either (FairBounds vars (n + 1)) (eqb p v) _ _ (object-fair (n + 1) v s m g.0 g.1 g.2) (forget-fair n v (a p))

  pub after-fair : (n : ℕ) (e : Effect) (L : List Bounds) → n ≤ 16 → FairEffect e → FairAll vars n L → FairAll vars (n + 1) (bounds_after e L)
  unfolding bounds_rules.bounds_after
  after-fair n e L l g a p = go (ltb p 16) refl
    where
      go : (b : Bool) → ltb p 16 ≡ b → FairBounds vars (n + 1) (get_or (tabulate 16 (effect_on e L)) p nothing_known)
      go true q = rw (get_d_tabulate 16 (effect_on e L) p nothing_known (ltb-true p 16 q)) (effect-fair n e L l g a p)
      go false q =
          let i : length (tabulate 16 (effect_on e L)) ≤ p = omega (arith, length-tabulate 16 (effect_on e L), ltb-false p 16 q) in
          rw (get_or-eq_default (tabulate 16 (effect_on e L)) nothing_known {n = p} i) (nothing-fair (n + 1))

-- ---- the bounds of a well-formed table

module _ (T : List ℤ) (h : Sections) (w : Formed T h) where
  abbrev vars : Variables
  vars = variables T h w.limits

  pub index-node : {v : ℕ} → IsIndex T h v → Node vars v
  index-node (missing e) = inl e
  index-node (given i) = inr i.below

  end-fair : {e : End} → EndTyped T h e → FairEnd vars 0 e
  end-fair t = record {
    pointer = inr t.pointer.below;
    integer = index-node t.integer;
    low = omega (arith, t.constant.low);
    high = omega (arith, t.constant.high);
  }

  read-fair : (v : ℕ) (r : Option Variable) → variable_at T h v ≡ r → FairBounds vars 0 (bounds_of r)
  read-fair v (Some (Pointer s l u)) e =
      let t = variable-read-typed T h v (Pointer s l u) e in record { size = t.few; lower = end-fair t.lower; upper = end-fair t.upper }
  read-fair v (Some Integer) e = nothing-fair vars 0
  read-fair v None e = nothing-fair vars 0

  own-fair : FairAll vars 0 (environment_of T h).declared
  unfolding environment_of
  own-fair p = go (ltb p 16) refl
    where
      go : (b : Bool) → ltb p 16 ≡ b → FairBounds vars 0 (get_or (tabulate 16 (λ v. bounds_of (variable_at T h v))) p nothing_known)
      go true q = rw (get_d_tabulate 16 (λ v. bounds_of (variable_at T h v)) p nothing_known (ltb-true p 16 q)) (read-fair p (variable_at T h p) refl)
      go false q =
          let i : length (tabulate 16 (λ v. bounds_of (variable_at T h v))) ≤ p =
          omega (arith, length-tabulate 16 (λ v. bounds_of (variable_at T h v)), ltb-false p 16 q) in
          rw (get_or-eq_default (tabulate 16 (λ v. bounds_of (variable_at T h v))) nothing_known {n = p} i) (nothing-fair vars 0)

  row-read-fair : (r : ℕ) (x : Option BoundsRow) → row_at T h r ≡ x → FairBounds vars 0 (row_bounds x)
  row-read-fair r (Some b) e =
      let t = row-read-typed T h r b.lower b.upper e in record { size = omega arith; lower = end-fair t.lower; upper = end-fair t.upper }
  row-read-fair r None e = nothing-fair vars 0

  row-fair : FairAll vars 0 (environment_of T h).rows
  unfolding environment_of
  row-fair r = go (ltb r 64) refl
    where
      go : (b : Bool) → ltb r 64 ≡ b → FairBounds vars 0 (get_or (tabulate 64 (λ v. row_bounds (row_at T h v))) r nothing_known)
      go true q = rw (get_d_tabulate 64 (λ v. row_bounds (row_at T h v)) r nothing_known (ltb-true r 64 q)) (row-read-fair r (row_at T h r) refl)
      go false q =
          let i : length (tabulate 64 (λ v. row_bounds (row_at T h v))) ≤ r =
          omega (arith, length-tabulate 64 (λ v. row_bounds (row_at T h v)), ltb-false r 64 q) in
          rw (get_or-eq_default (tabulate 64 (λ v. row_bounds (row_at T h v))) nothing_known {n = r} i) (nothing-fair vars 0)

  -- The bounds that a number stands for, and those in force, whatever the rows.
  pub number-fair : (n p : ℕ) → FairBounds vars 0 (row_bound (environment_of T h) n p)
  unfolding row_bound
  number-fair zero p = own-fair p
  number-fair (suc r) p = record { size = sizes-small T h p; lower = (row-fair r).lower; upper = (row-fair r).upper }

  pub declared-fair : (R : List ℕ) → FairAll vars 0 (in_force (environment_of T h) R).declared
  declared-fair R p = go (ltb p 16) refl
    where
      go : (b : Bool) → ltb p 16 ≡ b → FairBounds vars 0 (get_or (tabulate 16 (λ q. row_bound (environment_of T h) (get_or R q 0) q)) p nothing_known)
      go true q = rw (get_d_tabulate 16 (λ q. row_bound (environment_of T h) (get_or R q 0) q) p nothing_known (ltb-true p 16 q)) (number-fair (get_or R p 0) p)
      go false q =
          let i : length (tabulate 16 (λ q. row_bound (environment_of T h) (get_or R q 0) q)) ≤ p =
          omega (arith, length-tabulate 16 (λ q. row_bound (environment_of T h) (get_or R q 0) q), ltb-false p 16 q) in
          rw (get_or-eq_default (tabulate 16 (λ q. row_bound (environment_of T h) (get_or R q 0) q)) nothing_known {n = p} i) (nothing-fair vars 0)

  limit-small : (b : Bool) (n : ℕ) → n ≤ 1000000 → upper_limit b n ≤ 1000000
  unfolding upper_limit
  limit-small true n l = omega arith
  limit-small false n l = l

  span-fair : (o : ℕ) → o < h.objects → object_span (environment_of T h) o ≤ 1000000
  unfolding environment_of
  span-fair o l =
      rw (get_d_tabulate 16 (λ x. upper_limit (object_terminated T h x) (object_at T h x)) o 0 (omega (arith, w.limits.objects)))
      (limit-small (object_terminated T h o) (object_at T h o) (w.objects o l).1)

  pub statement-fair : (f : FactSet) (s : Simple) → SimpleTyped T h s → FairEffect vars (effect store (environment_of T h) f s)
  unfolding effect
  statement-fair f (Literal x k) s = tt
  statement-fair f (AddConstant x y k) s = cond_either (FairEffect vars) (in_range f y k && eqb x y) (Shift x k) (Forget x) s.constant tt
  statement-fair f (Arithmetic x y z op) s = tt
  statement-fair f (Null p) s = tt
  statement-fair f (Address p o) s = (s.target.below, span-fair o s.object, sizes-small T h p)
  statement-fair f (PointerOffset p q k) s = cond_either (FairEffect vars) (eqb p q) (Shift p k) (Copy p q) s.constant tt
  statement-fair f (PointerIndex p q i) s = cond_either (FairEffect vars) (eqb p q) (Forget p) (Copy p q) tt tt
  statement-fair f (Load x p i k) s = tt
  statement-fair f (Store p i k x) s = tt
  statement-fair f (Check c) s = tt
  statement-fair f (Declare p r) s = tt
