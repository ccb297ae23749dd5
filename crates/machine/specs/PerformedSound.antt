-- The statements of kinds 1 to 10 together: where no check fails, each has a step, and leaves what the rules say.
use Rattle.std.specs.Prelude.{ℕ, zero, suc, ◌+◌, ◌-◌, ◌%◌, ◌^◌, ◌≤◌, ◌<◌, ◌*◌, ◌≡◌, ◌≢◌, Bool, not, ◌||◌, leb, ltb, eqb, ℤ}
use Rattle.std.proofs.Math.Path.{refl, ap}
use Rattle.std.proofs.Common.{sym, ◌∙◌, get_or-set_same, get_or-set_other}
use Rattle.std.proofs.Math.Decide.{ℕ_discrete}
use Rattle.std.proofs.Math.Bool.{true, false}
use Rattle.std.proofs.lemmas.Bool.{false≢true}
use mathlib.Core.List.{List, [], ◌∷◌}
use native.Mathlib.Omega.{arith}
use borrow.Author.Tests.{leb-false, ltb-false, eqb-true, eqb-false, not-false}
use Rattle.std.proofs.Math.ListN.{get_or, set, length-set}
use Rattle.facts.specs.Store.{in_range}
use Rattle.sums.specs.Numbers.{bias, max_value}
use Rattle.chains.proofs.Sound.{Holds}
use Rattle.facts.specs.declared.FactSet.{FactSet}
use Rattle.words.specs.Sections.{string_at, object_terminated}
use Rattle.words.specs.Typed.{IsPointer}
use Rattle.words.specs.declared.sections.Sections.{Sections}
use Rattle.statements.specs.Typed.{SimpleTyped}
use Rattle.statements.specs.declared.Simple.{Simple}
use Rattle.statements.specs.declared.Simple.TheVariants.{Literal, AddConstant, Arithmetic, Null, Address}
use Rattle.statements.specs.declared.Simple.TheVariants.{PointerOffset, PointerIndex, Load, Store, Check, Declare}
use Rattle.blocks.specs.Tree.{target}
use Rattle.rules.specs.FactSets.{State}
use Rattle.rules.specs.Stored.{condition_facts, effect_on, bounds_after}
use Rattle.rules.specs.FactsTrue.{neither}
use Rattle.rules.specs.BoundsRules.{declared, in_force, rows_after, is_string, is_terminated}
use Rattle.rules.specs.BoundsTrue.{known-after}
use Rattle.rules.specs.EnvironmentLaws.{DeclaredEnds}
use Rattle.rules.specs.declared.Bounds.{Bounds}
use Rattle.rules.specs.declared.Effect.TheVariants.{Keep}
use Rattle.rules.specs.declared.Environment.{Environment}
use Rattle.machine.specs.Machine.{value, low, condition_holds, none, first_of, first_unless, address, arithmetic_failing}
use Rattle.machine.specs.Machine.{access_failing, failing, Memory, combined, performed, indexed, high, Failing, terminator_failing}
use Rattle.machine.specs.Points.{LastZero}
use Rattle.machine.specs.Good.{Setting, TrueOf, Steady, Good}
use Rattle.machine.specs.ConditionSound.{condition-holds}
use Rattle.machine.specs.AccessSound.{Inside, Ready, inside-origin, access-inside, first-none, passed, access-last, stored-zero}
use Rattle.machine.specs.SimpleSound.{Done, Left, remainder-small, combined-small, derived_set, integer-agree, integer-dropped}
use Rattle.machine.specs.SimpleSound.{literal-left, sum_left, pointer-agree, null-left, address-left, index-left, offset-left}
use Rattle.rules.specs.FactRules as fact_rules
use Rattle.rules.specs.BoundsRules as bounds_rules

-- The result of arithmetic on a pointer that no check stops.
pub record Moves (q a : ℕ) : Type 0 where
  pub some : q ≢ 0
  pub above : bias < a
  pub below : a ≤ bias + max_value

moves : (q a : ℕ) → arithmetic_failing q a ≡ none → Moves q a
unfolding arithmetic_failing
moves q a e =
    let first = first-none (eqb q 0) 4 (first_of (leb a bias || ltb (bias + max_value) a) 5 none) e in
    let second = neither (leb a bias) (ltb (bias + max_value) a) (first-none (leb a bias || ltb (bias + max_value) a) 5 none first.1).0 in
    record { some = eqb-false q 0 first.0; above = leb-false a bias second.0; below = ltb-false (bias + max_value) a second.1 }

-- A list in which one number is set stays below a limit.
set_below : (top : ℕ) (l : List ℕ) (i a j : ℕ) → a ≤ top → get_or l j 0 ≤ top → get_or (set l i a) j 0 ≤ top
set_below top [] i a j p q = q
set_below top (x ∷ l) zero a zero p q = p
set_below top (x ∷ l) zero a (suc j) p q = q
set_below top (x ∷ l) (suc i) a zero p q = q
set_below top (x ∷ l) (suc i) a (suc j) p q = set_below top l i a j p q

module _ (T : List ℤ) (h : Sections) (E : Environment) (D : List ℕ) (room : ℕ) (S : Setting T h E D room) (W : State FactSet) (K : List Bounds)
    (m : Memory) (g : Good h E D room W K m) where
  -- Values and origins stay.
  keep-good : (G : FactSet) (cells : List ℕ) → Holds G (value m.values)
      → Steady h room (record { cells = cells; values = m.values; origins = m.origins; rows = m.rows })
      → LastZero E D h.objects cells → Good h E D room (record { facts = G; rows = W.rows }) (bounds_after Keep K)
      (record { cells = cells; values = m.values; origins = m.origins; rows = m.rows })
  unfolding bounds_rules.effect_on
  keep-good G cells f s z =
      record {
        facts = f;
        rows = g.rows;
        named = g.named;
        bounds = λ p t. rw (known-after Keep K p (omega (arith, S.declares.few, S.declares.below p t))) (g.bounds p t);
        steady = s;
        last-zero = z;
      }

  module _ (p : ℕ) (i : IsPointer T h p) where
    abbrev E' : Environment
    E' = in_force E m.rows

    ends : DeclaredEnds E' p
    ends = S.declares.ends m.rows (rw g.rows g.named) p (S.declares.pointer p i)

    first : (o : ℕ) → o < h.objects → 1 ≤ low D o
    first o l = (S.placed o l).first

    pointer-inside : (a : ℕ) (rest : Failing) → access_failing E' m.values p a rest ≡ none → TrueOf E D h.objects m p (declared E' p)
        → Inside D h.objects (get_or m.origins p 0) a
    pointer-inside a rest e t = access-inside E' D h.objects m p ends first a rest e t

    -- WHY NO STORE BREAKS A TERMINATOR. A store is inside the origin object of its pointer, and no cell is in two objects; so a store at the last cell of a
    -- terminated object is through a pointer into it, at its upper end (`access-last`), and what check 6 lets pass there is 0.
    store-last : (a x : ℕ) → access_failing E' m.values p a (terminator_failing E' m.values p a x) ≡ none → TrueOf E D h.objects m p (declared E' p)
        → LastZero E D h.objects (set m.cells (a - bias) x)
    store-last a x e t o l z = go (ℕ_discrete (high D o - 1) (a - bias))
      where
        rest : Failing
        rest = terminator_failing E' m.values p a x

        inside : Inside D h.objects (get_or m.origins p 0) a
        inside = pointer-inside a rest e t

        long : 1 ≤ get_or D (2 * o + 1) 0
        long = rw (S.placed o l).long (S.declares.long o l)

        go : Dec (high D o - 1 ≡ a - bias) → get_or (set m.cells (a - bias) x) (high D o - 1) 0 ≡ 0
        go (no n) = get_or-set_other m.cells (a - bias) (high D o - 1) x 0 n ∙ g.last-zero o l z
        go (yes q) =
            let same : inside.object ≡ o =
            S.apart inside.object o (a - bias) inside.exists l (omega (arith, inside.above)) (omega (arith, inside.above, inside.below))
            (omega (arith, long, q)) (omega (arith, long, q)) in
            let there : get_or m.origins p 0 ≡ suc o = inside.origin-is ∙ ap suc same in
            let upper = access-last E' D h.objects m p ends first a rest e t o there z (omega (arith, long, q, inside.above)) in
            let zero_is : x ≡ 0 = stored-zero E' D h.objects m p ends a x (passed E' D h.objects m p ends a rest e).then upper in
            rw q (get_or-set_same m.cells (a - bias) x 0
            (omega (arith, inside.below, inside.above, (S.placed inside.object inside.exists).inside, g.steady.cells-long)) ∙ zero_is)

  store-steady : (a x : ℕ) (origin : ℕ) → Inside D h.objects origin a
      → Steady h room (record { cells = set m.cells (a - bias) (value m.values x); values = m.values; origins = m.origins; rows = m.rows })
  store-steady a x origin i =
      record {
        range = g.steady.range;
        values-long = g.steady.values-long;
        origins-long = g.steady.origins-long;
        rows_long = g.steady.rows_long;
        cells-long = length-set m.cells (a - bias) (value m.values x) ∙ g.steady.cells-long;
        cells-small = λ j. set_below max_value m.cells (a - bias) (value m.values x) j (g.steady.range.below x) (g.steady.cells-small j);
      }

  -- A kind 2 pointer takes only what is terminated.
  string-fits : (p q : ℕ) → IsPointer T h p → IsPointer T h q → (string_at T h p ≡ true → string_at T h q ≡ true) → is_string E p ≡ true → is_string E q ≡ true
  string-fits p q i j f e = S.declares.string q j.below ∙ f (sym (S.declares.string p i.below) ∙ e)

  object-fits : (p o : ℕ) → IsPointer T h p → o < h.objects → (string_at T h p ≡ true → object_terminated T h o ≡ true) → is_string E p ≡ true
      → is_terminated E o ≡ true
  object-fits p o i l f e = S.declares.ended o l ∙ f (sym (S.declares.string p i.below) ∙ e)

  -- p := q + k, by whether it is a plain copy.
  offset-done : (p q k : ℕ) → SimpleTyped T h (PointerOffset p q k) → (b : Bool) → eqb k bias ≡ b
      → first_unless b (arithmetic_failing (value m.values q) (value m.values q + k)) ≡ none
      → Left T h E D room S W K (PointerOffset p q k) m (derived_set m p q (value m.values q + k - bias))
  unfolding fact_rules.facts_after bounds_rules.effect rows_after
  offset-done p q k t true c e =
      let same : k ≡ bias = eqb-true k bias c in
      let small : value m.values q + k - bias ≤ max_value = omega (arith, g.steady.range.below q) in
      record {
        good =
            offset-left T h E D room S W K m g p q (value m.values q + k - bias) t.target t.source small
            (string-fits p q t.target t.source t.fits) (λ z. omega arith) k (omega arith)
            (λ n. absurd (false≢true (sym n ∙ c))) (eqb p q) (eqb k bias) refl refl;
        agree = pointer-agree T h E D room S W K m g p (value m.values q + k - bias) (get_or m.origins q 0) t.target small;
      }
  offset-done p q k t false c e =
      let r = moves (value m.values q) (value m.values q + k) e in
      let above : bias < value m.values q + k = r.above in
      let below : value m.values q + k ≤ bias + max_value = r.below in
      let small : value m.values q + k - bias ≤ max_value = omega arith in
      record {
        good =
            offset-left T h E D room S W K m g p q (value m.values q + k - bias) t.target t.source small
            (string-fits p q t.target t.source t.fits) (λ z. absurd (r.some z)) k (omega arith) (λ n. omega arith) (eqb p q)
            (eqb k bias) refl refl;
        agree = pointer-agree T h E D room S W K m g p (value m.values q + k - bias) (get_or m.origins q 0) t.target small;
      }

  index-done : (p q i : ℕ) → SimpleTyped T h (PointerIndex p q i) → arithmetic_failing (value m.values q) (indexed E m.values q i + bias) ≡ none
      → Left T h E D room S W K (PointerIndex p q i) m (derived_set m p q (indexed E m.values q i))
  unfolding fact_rules.facts_after bounds_rules.effect rows_after
  index-done p q i t e =
      let r = moves (value m.values q) (indexed E m.values q i + bias) e in
      let above : bias < indexed E m.values q i + bias = r.above in
      let below : indexed E m.values q i + bias ≤ bias + max_value = r.below in
      let small : indexed E m.values q i ≤ max_value = omega arith in
      record {
        good =
            index-left T h E D room S W K m g p q (indexed E m.values q i) t.target t.source small (string-fits p q t.target t.source t.fits)
            (λ z. absurd (r.some z)) (omega arith)
            (eqb p q) refl;
        agree = pointer-agree T h E D room S W K m g p (indexed E m.values q i) (get_or m.origins q 0) t.target small;
      }

  pub performed-good : (s : Simple) → SimpleTyped T h s → Ready (in_force E m.rows) D h.objects s m → failing (in_force E m.rows) m.values s ≡ none
      → Done (Left T h E D room S W K s m) (performed E D s m)
  unfolding performed failing fact_rules.facts_after bounds_rules.effect rows_after bounds_rules.effect_on
  performed-good (Literal x k) t r e =
      let small : k ≤ max_value = omega (arith, t.value) in
      record { good = literal-left T h E D room S W K m g x k t.target small; agree = integer-agree T h E D room S W K m g x k t.target small }
  performed-good (AddConstant x y k) t r e =
      let a = (value m.values y + k) % 2 ^ 32 in
      record {
        good = sum_left T h E D room S W K m g x y k t.target t.source (in_range W.facts y k) (eqb x y) refl refl;
        agree = integer-agree T h E D room S W K m g x a t.target (remainder-small (value m.values y + k));
      }
  performed-good (Arithmetic x y z op) t r e =
      let a = combined op (value m.values y) (value m.values z) in
      let small = combined-small op (value m.values y) (value m.values z) in
      record { good = integer-dropped T h E D room S W K m g x a t.target small; agree = integer-agree T h E D room S W K m g x a t.target small }
  performed-good (Null p) t r e = record { good = null-left T h E D room S W K m g p t; agree = pointer-agree T h E D room S W K m g p 0 0 t (omega arith) }
  performed-good (Address p o) t r e =
      let small : low D o ≤ max_value = omega (arith, (S.placed o t.object).inside, S.memory) in
      record {
        good = address-left T h E D room S W K m g p o t.target t.object (object-fits p o t.target t.object t.fits);
        agree = pointer-agree T h E D room S W K m g p (low D o) (o + 1) t.target small;
      }
  performed-good (PointerOffset p q k) t r e = offset-done p q k t (eqb k bias) refl e
  performed-good (PointerIndex p q i) t r e = index-done p q i t e
  performed-good (Load x p i k) t r e =
      let a = address E m.values p i k in
      let b = get_or m.cells (a - bias) 0 in
      let small = g.steady.cells-small (a - bias) in
      rw (inside-origin D h.objects (get_or m.origins p 0) a (pointer-inside p t.pointer a none e r))
      (record { good = integer-dropped T h E D room S W K m g x b t.value small; agree = integer-agree T h E D room S W K m g x b t.value small })
  performed-good (Store p i k x) t r e =
      let a = address E m.values p i k in
      let inside = pointer-inside p t.pointer a (terminator_failing (in_force E m.rows) m.values p a (value m.values x)) e r in
      rw (inside-origin D h.objects (get_or m.origins p 0) a inside)
      (record {
        good = keep-good W.facts (set m.cells (a - bias) (value m.values x)) g.facts (store-steady a x (get_or m.origins p 0) inside)
            (store-last p t.pointer a (value m.values x) e r);
        agree = λ z n. refl;
      })
  performed-good (Check c) t r e =
      let c₁ : condition_holds m.values c ≡ true = not-false (condition_holds m.values c) (first-none (not (condition_holds m.values c)) 1 none e).0 in
      record {
        good = keep-good (condition_facts W.facts c) m.cells (condition-holds W.facts m.values g.steady.range g.facts c c₁)
            g.steady g.last-zero;
        agree = λ z n. refl;
      }
  performed-good (Declare p r) t q e =
      record {
        good = record {
          facts = g.facts;
          rows = ap (λ (R : List ℕ). set R p (r + 1)) g.rows;
          named = λ x. set_below h.rows W.rows p (r + 1) x (omega (arith, t.row)) (g.named x);
          bounds = λ x u. rw (known-after Keep K x (omega (arith, S.declares.few, S.declares.below x u))) (g.bounds x u);
          steady = record {
            range = g.steady.range;
            values-long = g.steady.values-long;
            origins-long = g.steady.origins-long;
            rows_long = length-set m.rows p (r + 1) ∙ g.steady.rows_long;
            cells-long = g.steady.cells-long;
            cells-small = g.steady.cells-small;
          };
          last-zero = g.last-zero;
        };
        agree = λ z n. refl;
      }
