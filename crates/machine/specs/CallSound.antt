-- A call of an accepted routine: the bounds of the callee's parameters are true where it begins, and what it leaves keeps the caller's facts and bounds.
use Rattle.std.specs.Prelude.{ℕ, ◌+◌, ◌-◌, ◌*◌, ◌≤◌, ◌<◌, ◌≡◌, ◌≢◌, ◌⊎◌, Bool, not, ◌&&◌, ◌||◌, ltb, ℤ, length, get_or, None, Option, Some}
use Rattle.std.proofs.Math.Path.{refl}
use Rattle.std.proofs.Common.{sym, ap, ◌∙◌, inl, inr, arith}
use Rattle.std.proofs.Math.Bool.{true, false, cond}
use Rattle.std.proofs.lemmas.Bool.{false≢true}
use mathlib.Core.List.{List, [], ◌∷◌}
use borrow.Author.Tests.{eqb-true, eqb-false, ltb-true, ltb-false, eq-eqb}
use Rattle.std.proofs.Math.Dec.{eqb}
use Rattle.std.proofs.Math.ListN.{set, get_or-eq_default}
use Rattle.std.proofs.Math.Seq.{set_out}
use Rattle.sums.specs.Numbers.{bias, max_value, zero_var}
use Rattle.arrays.specs.Tabulate.{tabulate}
use Rattle.arrays.specs.TabulateLaws.{get_d_tabulate, length-tabulate}
use Rattle.chains.proofs.Sound.{InRange, new-holds}
use Rattle.facts.specs.Store.{dropped}
use Rattle.facts.specs.declared.FactSet.{FactSet}
use Rattle.words.specs.NameLaws.{either}
use Rattle.words.specs.SectionsLaws.{both}
use Rattle.words.specs.Typed.{IsIndex, missing, given, IsPointer}
use Rattle.words.specs.declared.sections.Sections.{Sections}
use Rattle.statements.specs.Typed.{CallTyped}
use Rattle.statements.specs.declared.CallSite.{CallSite}
use Rattle.table.specs.Typed.{EndTyped}
use Rattle.table.specs.declared.variables.End.{End}
use Rattle.blocks.specs.Tree.{call_target}
use Rattle.rules.specs.FactSets.{State}
use Rattle.rules.specs.FactsTrue.{Agree}
use Rattle.rules.specs.BoundsRules.{is_pointer, is_string, declared, known, own_rows, in_force, upper_limit}
use Rattle.rules.specs.BoundsRules as bounds_rules
use Rattle.rules.specs.BoundsTrue.{BoundsHold, LowerHolds, UpperHolds, ProperEnd, Proper, end_at, shown-holds, known-after, own-row, own-declared}
use Rattle.rules.specs.Calls as calls
use Rattle.rules.specs.Calls.{Routine, argument, is_parameter, end_fits, argument_end, argument_bounds, bounds_fit, arguments_fit, result_effect}
use Rattle.rules.specs.CallLaws.{RoutineFormed, Fits, fits, argument-below, integer-put}
use Rattle.rules.specs.EnvironmentLaws.{Declares, DeclaredEnds, Named, OwnEnds, own-ends}
use Rattle.rules.specs.Stored.{store, bounds_shown, bounds_after, new_state, called_state, declared_in}
use Rattle.rules.specs.Verdict.{environment_of}
use Rattle.rules.specs.declared.Bounds.{Bounds}
use Rattle.rules.specs.declared.Effect.TheVariants.{Keep, Forget}
use Rattle.rules.specs.declared.Environment.{Environment}
use Rattle.machine.specs.Machine.{value, low, high, Memory}
use Rattle.machine.specs.Points.{LastZero}
use Rattle.machine.specs.SetMachine.{Returned, returned_to, called_memory}
use Rattle.machine.specs.Good.{Setting, Good, GoodCells, with-cells, TrueOf, InObject}
use Rattle.machine.specs.SimpleSound.{integer-dropped, integer-agree}

-- ---- what a callee leaves

pub record GoodReturn (E : Environment) (D : List ℕ) (objects room : ℕ) (b : Returned) : Type 0 where
  pub cells : GoodCells E D objects room b.cells
  pub small : b.result ≤ max_value

module _ (T : List ℤ) (h : Sections) (E : Environment) (D : List ℕ) (room : ℕ) (S : Setting T h E D room) where
  module _ (F : State FactSet) (K : List Bounds) (m : Memory) (b : Returned) (r : GoodReturn E D h.objects room b) (g : Good h E D room F K m) where
    abbrev left : Memory
    left = record { cells = b.cells; values = m.values; origins = m.origins; rows = m.rows }

    left-good : Good h E D room F K left
    left-good = with-cells h E D room F K m b.cells g r.cells

    left-kept : Good h E D room F (bounds_after Keep K) left
    unfolding bounds_rules.effect_on
    left-kept =
        record {
          facts = g.facts;
          rows = g.rows;
          named = g.named;
          bounds = λ p u. rw (known-after Keep K p (omega (arith, S.declares.few, S.declares.below p u))) (left-good.bounds p u);
          steady = left-good.steady;
          last-zero = left-good.last-zero;
        }

  -- The caller gets the result: the facts without it are true, and the bounds without ends that name it.
  pub returned-good : (F : State FactSet) (K : List Bounds) (m : Memory) (c : CallSite) → CallTyped T h c → (b : Returned)
      → GoodReturn E D h.objects room b → Good h E D room F K m
      → Good h E D room (called_state c F) (bounds_after (result_effect c) K) (returned_to m c b)
      × Agree (call_target c) (value m.values) (value (set m.values c.result b.result))
  unfolding calls.result_facts result_effect
  returned-good F K m c t b r g = go (eqb c.result zero_var) refl t.result
    where
      go : (e : Bool) → eqb c.result zero_var ≡ e → IsIndex T h c.result
          → Good h E D room (record { facts = cond e F.facts (dropped F.facts c.result); rows = F.rows })
          (bounds_after (cond e Keep (Forget c.result)) K) (returned_to m c b)
          × Agree (cond e [] (c.result ∷ [])) (value m.values) (value (set m.values c.result b.result))
      go true q i =
          let out : set m.values c.result b.result ≡ m.values = set_out m.values c.result b.result
          (omega (arith, eqb-true c.result zero_var q, g.steady.values-long, S.declares.few)) in
          rw out (left-kept F K m b r g, λ z u. refl)
      go false q (missing e) = absurd (eqb-false _ _ q e)
      go false q (given i) = (
        integer-dropped T h E D room S F K (left F K m b r g) (left-good F K m b r g) c.result b.result i r.small,
        integer-agree T h E D room S F K (left F K m b r g) (left-good F K m b r g) c.result b.result i r.small,
      )

-- ---- where the callee begins

-- A table of values made from a list: each one small, and zero past its end.
made-small : (n : ℕ) (f : ℕ → ℕ) (top x : ℕ) → ((j : ℕ) → f j ≤ top) → get_or (tabulate n f) x 0 ≤ top
made-small n f top x k = go (ltb x n) refl
  where
    go : (b : Bool) → ltb x n ≡ b → get_or (tabulate n f) x 0 ≤ top
    go true q = rw (get_d_tabulate n f x 0 (ltb-true x n q)) (k x)
    go false q = rw (get_or-eq_default (tabulate n f) 0 {n = x} (omega (arith, length-tabulate n f, ltb-false x n q))) (omega arith)

made_none : (n : ℕ) (f : ℕ → ℕ) → n ≤ zero_var → get_or (tabulate n f) zero_var 0 ≡ 0
made_none n f l = get_or-eq_default (tabulate n f) 0 (omega (arith, length-tabulate n f))

not-given : (x : ℕ) → not (eqb x zero_var) ≡ false → x ≡ zero_var
not-given x e = go (eqb x zero_var) refl e
  where
    go : (b : Bool) → eqb x zero_var ≡ b → not b ≡ false → x ≡ zero_var
    go true q e = eqb-true x zero_var q
    go false q e = absurd (false≢true (sym e))

module _ (T : List ℤ) (h : Sections) (E : Environment) (D : List ℕ) (room : ℕ) (S : Setting T h E D room)
    (r : Routine) (formed : RoutineFormed r) (declares : Declares r.table r.sections r.environment)
    (objects : r.sections.objects ≡ h.objects) (terminated : r.environment.terminated ≡ E.terminated)
    (c : CallSite) (typed : CallTyped T h c) (F : State FactSet) (m : Memory) (g : Good h E D room F (declared_in E F) m)
    (fit : arguments_fit store E F.facts (declared_in E F) r c ≡ true) where
  abbrev v : ℕ → ℕ
  v = value m.values

  abbrev vs : List ℕ
  vs = tabulate r.sections.variables (λ j. v (argument c j))

  abbrev w : ℕ → ℕ
  w = value vs

  abbrev fit_of : (j : ℕ) → is_parameter c j ≡ true → Fits E F.facts (declared_in E F) r c j
  fit_of j p = fits E F.facts (declared_in E F) r c fit j p

  -- A parameter has the argument's value; zero is zero.
  parameter-value : (j : ℕ) → is_parameter c j ≡ true → w j ≡ v (argument c j)
  parameter-value j p = get_d_tabulate r.sections.variables (λ i. v (argument c i)) j 0 (fit_of j p).below

  zero-value : w zero_var ≡ 0
  zero-value = made_none r.sections.variables (λ i. v (argument c i)) declares.few

  integer-value : (x : ℕ) → (eqb x zero_var || is_parameter c x) ≡ true → w x ≡ v (argument c x)
  integer-value x q = go (either (eqb x zero_var) (is_parameter c x) q)
    where
      go : (eqb x zero_var ≡ true) ⊎ (is_parameter c x ≡ true) → w x ≡ v (argument c x)
      go (inl e) = let z : x ≡ zero_var = eqb-true x zero_var e in rw z (zero-value ∙ sym g.steady.range.zero_is)
      go (inr e) = parameter-value x e

  range : InRange w
  range = record { zero_is = zero-value; below = λ x. made-small _ _ max_value x (λ j. g.steady.range.below (argument c j)) }

  -- ---- ends

  -- An end that names parameters only has the value of the end with the arguments put in.
  put-value : (s : ℕ) (e : End) → is_parameter c e.pointer ≡ true → (eqb e.integer zero_var || is_parameter c e.integer) ≡ true
      → end_at w s e ≡ v (argument c e.pointer) + s * v (argument c e.integer) + e.constant
  put-value s e p q = rw (parameter-value e.pointer p, integer-value e.integer q)

  lower-put : (lo s : ℕ) (e : Option End) → end_fits c e ≡ true → ProperEnd e → LowerHolds lo s (argument_end c e) v → LowerHolds lo s e w
  unfolding end_fits argument_end
  lower-put lo s None q k l = absurd (false≢true q)
  lower-put lo s (Some e) q k l =
      let p = both (is_parameter c e.pointer) (eqb e.integer zero_var || is_parameter c e.integer) q in
      (k, omega (arith, l.1, put-value s e p.0 p.1))

  upper-put : (hi s : ℕ) (e : Option End) → end_fits c e ≡ true → ProperEnd e → UpperHolds hi s (argument_end c e) v → UpperHolds hi s e w
  unfolding end_fits argument_end
  upper-put hi s None q k l = absurd (false≢true q)
  upper-put hi s (Some e) q k l =
      let p = both (is_parameter c e.pointer) (eqb e.integer zero_var || is_parameter c e.integer) q in
      (k, omega (arith, l.1, put-value s e p.0 p.1))

  -- The end with the arguments put in names a pointer and an integer of the caller.
  end-proper : (e : End) → EndTyped r.table r.sections e → end_fits c (Some e) ≡ true → ProperEnd (argument_end c (Some e))
  unfolding end_fits argument_end
  end-proper e t q =
      let p = both (is_parameter c e.pointer) (eqb e.integer zero_var || is_parameter c e.integer) q in
      let l = argument-below T h c typed e.pointer p.0 in
      record {
        pointer = omega (arith, l, S.declares.few);
        integer = small (integer-put T h c typed e.integer p.1);
        distinct = λ z. apart (either (eqb e.integer zero_var) (is_parameter c e.integer) p.1) z l
            ((fit_of e.pointer p.0).pointer ∙ declares.pointer e.pointer t.pointer);
      }
    where
      small : {x : ℕ} → (x ≡ zero_var) ⊎ (x < h.variables) → x < 17
      small (inl i) = omega (arith, i)
      small (inr i) = omega (arith, i, S.declares.few)

      apart : (eqb e.integer zero_var ≡ true) ⊎ (is_parameter c e.integer ≡ true) → argument c e.pointer ≡ argument c e.integer
          → argument c e.pointer < h.variables → is_pointer E (argument c e.pointer) ≡ true → ⊥
      apart (inl i) z l k =
          let u : argument c e.integer ≡ zero_var = ap (argument c) (eqb-true e.integer zero_var i) in
          omega (arith, l, S.declares.few, z ∙ u)
      apart (inr i) z l k = integer t.integer
        where
          integer : IsIndex r.table r.sections e.integer → ⊥
          integer (missing n) = omega (arith, (fit_of e.integer i).below, declares.few, n)
          integer (given n) = false≢true (sym ((fit_of e.integer i).pointer ∙ declares.integer e.integer n) ∙ (ap (is_pointer E) (sym z) ∙ k))

  -- ---- the bounds of a parameter

  own-named : Named r.sections own_rows
  own-named p = omega (arith, own-row p)

  abbrev made : Memory
  made = called_memory r c m

  module _ (p : ℕ) (t : is_pointer r.environment p ≡ true) where
    below : p < r.sections.variables
    below = declares.below p t

    abbrev b : Bounds
    b = declared r.environment p

    ends : DeclaredEnds (in_force r.environment own_rows) p
    ends = declares.ends own_rows own-named p t

    same : declared (in_force r.environment own_rows) p ≡ b
    same = own-declared r.environment p (omega (arith, below, declares.few))

    typed-ends : OwnEnds r.table r.sections p
    typed-ends = own-ends r.table r.sections formed.formed p (ap (λ (X : Environment). is_pointer X p) (sym formed.environment) ∙ t)

    own-bounds : b ≡ record { size = typed-ends.size; lower = Some typed-ends.low; upper = Some typed-ends.high }
    own-bounds = ap (λ (X : Environment). declared X p) formed.environment ∙ typed-ends.bounds

    lower-proper : ProperEnd b.lower
    lower-proper =
        let k : ProperEnd (declared (in_force r.environment own_rows) p).lower = rw ends.bounds ends.low-proper in
        let e = same in
        rw e at k

    upper-proper : ProperEnd b.upper
    upper-proper =
        let k : ProperEnd (declared (in_force r.environment own_rows) p).upper = rw ends.bounds ends.high-proper in
        let e = same in
        rw e at k

    -- Where p takes an argument.
    module _ (given-p : is_parameter c p ≡ true) where
      abbrev q : ℕ
      q = argument c p

      f : Fits E F.facts (declared_in E F) r c p
      f = fit_of p given-p

      shown : (end_fits c b.lower ≡ true) × (end_fits c b.upper ≡ true) × (bounds_shown F.facts q (known (declared_in E F) q) (argument_bounds c b) ≡ true)
      unfolding bounds_fit
      shown =
          let x = both (end_fits c b.lower && end_fits c b.upper) (bounds_shown F.facts q (known (declared_in E F) q) (argument_bounds c b))
          (f.bounds t) in
          let y = both (end_fits c b.lower) (end_fits c b.upper) x.0 in
          (y.0, y.1, x.1)

      put-lower : ProperEnd (argument_bounds c b).lower
      unfolding argument_bounds
      put-lower = let e = own-bounds in rw e (end-proper typed-ends.low typed-ends.low-typed (rw e at shown.0))

      put-upper : ProperEnd (argument_bounds c b).upper
      unfolding argument_bounds
      put-upper = let e = own-bounds in rw e (end-proper typed-ends.high typed-ends.high-typed (rw e at shown.1))

      put_holds : (lo hi : ℕ) → BoundsHold lo hi (argument_bounds c b) v → BoundsHold lo hi b w
      unfolding argument_bounds
      put_holds lo hi k =
          record {
            lower = lower-put lo b.size b.lower shown.0 lower-proper k.lower;
            upper = upper-put hi b.size b.upper shown.1 upper-proper k.upper;
          }

      origin : get_or made.origins p 0 ≡ get_or m.origins q 0
      origin = get_d_tabulate r.sections.variables (λ j. get_or m.origins (argument c j) 0) p 0 below

      parameter-true : TrueOf E D h.objects m q (known (declared_in E F) q) → TrueOf r.environment D r.sections.objects made p b
      parameter-true (inl z) = inl (parameter-value p given-p ∙ z)
      parameter-true (inr i) =
          go (shown-holds F.facts v g.facts g.steady.range _ _ q (known (declared_in E F) q) (argument_bounds c b)
          (omega (arith, argument-below T h c typed p given-p, S.declares.few)) put-lower put-upper shown.2 i.bounds)
        where
          go : (v q ≡ 0) ⊎ BoundsHold (low D i.object + bias) (upper_limit (get_or E.terminated i.object false) (high D i.object) + bias)
              (argument_bounds c b) v → TrueOf r.environment D r.sections.objects made p b
          go (inl z) = inl (parameter-value p given-p ∙ z)
          go (inr k) =
              let e = terminated in
              inr (record {
                object = i.object;
                origin-is = origin ∙ i.origin-is;
                exists = omega (arith, objects, i.exists);
                ended = λ s. rw e (i.ended (f.string ∙ s));
                bounds = rw e (put_holds _ _ k);
              })

    pointer-true : (e : Bool) → is_parameter c p ≡ e → TrueOf r.environment D r.sections.objects made p b
    pointer-true true k = parameter-true k (g.bounds (argument c p) ((fit_of p k).pointer ∙ t))
    pointer-true false k =
        inl (get_d_tabulate r.sections.variables (λ i. v (argument c i)) p 0 below
        ∙ (ap v (not-given (argument c p) k) ∙ g.steady.range.zero_is))

  -- The callee begins with true facts and true bounds.
  pub called-good : Good r.sections r.environment D room new_state (declared_in r.environment new_state) made
  called-good =
      record {
        facts = new-holds w range;
        rows = refl;
        named = own-named;
        bounds = λ p t. let e = same p t in rw e (pointer-true p t (is_parameter c p) refl);
        steady =
            record {
              range = range;
              values-long = length-tabulate r.sections.variables (λ j. v (argument c j));
              origins-long = length-tabulate r.sections.variables (λ j. get_or m.origins (argument c j) 0);
              rows_long = length-tabulate {A = ℕ} 16 (λ x. 0);
              cells-long = g.steady.cells-long;
              cells-small = g.steady.cells-small;
            };
        last-zero = λ o l e. g.last-zero o (omega (arith, objects)) (ap (λ (x : List Bool). get_or x o false) (sym terminated) ∙ e);
      }
