-- Each statement of kinds 1 to 10, where no check fails, leaves what the rules say.
use Rattle.std.specs.Prelude.{ℕ, zero, suc, ◌+◌, ◌-◌, ◌*◌, ◌%◌, ◌^◌, ◌≤◌, ◌<◌, ◌≡◌, ◌≢◌, Bool, ◌&&◌, cond, List, [], ◌∷◌, ℤ, get_or, set}
use Rattle.std.proofs.Math.Path.{refl, ap}
use Rattle.std.proofs.Common.{sym, ◌∙◌, inl, arith, length-set, get_or-set_same, get_or-set_other}
use Rattle.std.proofs.Math.Logic.{inr}
use Rattle.std.proofs.Math.Bool.{true, false}
use Rattle.std.proofs.lemmas.Bool.{false≢true}
use borrow.Author.Tests.{eqb-true, eqb-false, eq-eqb, ne_eqb}
use Rattle.std.proofs.Math.Dec.{eqb}
use Rattle.sums.specs.Numbers.{bias, max_value}
use Rattle.facts.specs.Store.{in_range, dropped, ranged, shifted}
use Rattle.chains.proofs.Sound.{Holds, dropped-holds, ranged-holds, shifted-holds}
use Rattle.facts.specs.declared.FactSet.{FactSet}
use Rattle.words.specs.Typed.{IsInteger, IsPointer}
use Rattle.words.specs.declared.sections.Sections.{Sections}
use Rattle.statements.specs.declared.Simple.{Simple}
use Rattle.blocks.specs.Tree.{target}
use Rattle.rules.specs.Stored.{equated, sum_facts, offset_facts, effect, effect_on, bounds_after, state_after}
use Rattle.rules.specs.BoundsRules as bounds_rules
use Rattle.rules.specs.FactsTrue.{Agree, among_one, equated-holds, positive-holds, sum-in-range}
use Rattle.rules.specs.BoundsRules.{object_length, known, forget_bounds, object_bounds, element_size, is_string, is_terminated, upper_limit, object_span}
use Rattle.rules.specs.BoundsTrue.{BoundsHold, forget-holds, shift-holds, object-holds}
use Rattle.rules.specs.declared.Bounds.{Bounds}
use Rattle.rules.specs.declared.Effect.{Effect}
use Rattle.rules.specs.declared.Effect.TheVariants.{Forget, Shift, Copy, Object}
use Rattle.rules.specs.declared.Environment.{Environment}
use Rattle.machine.specs.Machine.{value, low, high, Memory, Performed, done, no_step, combined, top}
use Rattle.machine.specs.Good.{Setting, TrueOf, Good, carry, Assigned, set-good}
use Rattle.rules.specs.FactRules as fact_rules
use Rattle.rules.specs.FactSets.{State}

-- A statement that has a step leaves a memory.
abbrev pub Done : (Memory → Type 0) → Performed → Type 0
Done P (done m) = P m
Done P no_step = ⊥

pub done-map : {P Q : Memory → Type 0} → ((m : Memory) → P m → Q m) → (r : Performed) → Done P r → Done Q r
done-map f (done m) p = f m p
done-map f no_step p = p

-- Remainders, and sums that do not wrap.
pub remainder-small : (a : ℕ) → a % 2 ^ 32 ≤ max_value
remainder-small a = omega arith

remainder-same : (a : ℕ) → bias ≤ a → a ≤ bias + max_value → a % 2 ^ 32 + bias ≡ a
remainder-same a l u = omega arith

pub combined-small : (op a b : ℕ) → combined op a b ≤ max_value
unfolding combined
combined-small zero a b = remainder-small (a + b)
combined-small (suc zero) a b = remainder-small (a + 2 ^ 32 - b)
combined-small (suc (suc n)) a b = remainder-small (a * b)

-- The upper limit of an object, counted from its first cell.
limit-add : (b : Bool) (l n : ℕ) → 1 ≤ n → l + upper_limit b n ≡ upper_limit b (l + n)
unfolding upper_limit
limit-add true l n p = omega arith
limit-add false l n p = refl

-- The values and the memory with one variable set.
abbrev pub values_set : Memory → ℕ → ℕ → ℕ → ℕ
values_set m x a = value (set m.values x a)

abbrev pub integer_set : Memory → ℕ → ℕ → Memory
integer_set m x a = record { cells = m.cells; values = set m.values x a; origins = m.origins; rows = m.rows }

abbrev pub pointer_set : Memory → ℕ → ℕ → ℕ → Memory
pointer_set m p a o = record { cells = m.cells; values = set m.values p a; origins = set m.origins p o; rows = m.rows }

-- The pointer p gets the address a, and the origin of q.
abbrev pub derived_set : Memory → ℕ → ℕ → ℕ → Memory
derived_set m p q a = pointer_set m p a (get_or m.origins q 0)

module _ (T : List ℤ) (h : Sections) (E : Environment) (D : List ℕ) (room : ℕ) (S : Setting T h E D room) where
  -- What the statement s leaves.
  pub record Left (W : State FactSet) (K : List Bounds) (s : Simple) (m n : Memory) : Type 0 where
    pub good : Good h E D room (state_after s W) (bounds_after (effect E W.facts s) K) n
    pub agree : Agree (target s) (value m.values) (value n.values)

  others-forget : (K : List Bounds) (v w : ℕ → ℕ) (x a : ℕ) → Assigned v w x a → (r l u : ℕ) → r ≢ x → BoundsHold l u (known K r) v
      → BoundsHold l u (effect_on (Forget x) K r) w
  unfolding bounds_rules.effect_on
  others-forget K v w x a is r l u n b = forget-holds v w x is.except l u (known K r) b

  others-shift : (K : List Bounds) (v w : ℕ → ℕ) (x k a : ℕ) → w x + bias ≡ v x + k → Assigned v w x a → (r l u : ℕ) → r ≢ x → BoundsHold l u (known K r) v
      → BoundsHold l u (effect_on (Shift x k) K r) w
  unfolding bounds_rules.effect_on
  others-shift K v w x k a e is r l u n b = shift-holds v w x is.except k e l u (known K r) b

  others-copy : (K : List Bounds) (v w : ℕ → ℕ) (x q a : ℕ) → Assigned v w x a → (r l u : ℕ) → r ≢ x → BoundsHold l u (known K r) v
      → BoundsHold l u (effect_on (Copy x q) K r) w
  unfolding bounds_rules.effect_on
  others-copy K v w x q a is r l u n b = rw (ne_eqb r x n) (forget-holds v w x is.except l u (known K r) b)

  others-object : (K : List Bounds) (v w : ℕ → ℕ) (x s k a : ℕ) → Assigned v w x a → (r l u : ℕ) → r ≢ x → BoundsHold l u (known K r) v
      → BoundsHold l u (effect_on (Object x s k) K r) w
  unfolding bounds_rules.effect_on
  others-object K v w x s k a is r l u n b = rw (ne_eqb r x n) (forget-holds v w x is.except l u (known K r) b)

  module _ (W : State FactSet) (K : List Bounds) (m : Memory) (g : Good h E D room W K m) where
    abbrev F : FactSet
    F = W.facts

    -- What a statement that keeps the rows in force leaves.
    abbrev pub GoodAfter : FactSet → List Bounds → Memory → Type 0
    GoodAfter G L n = Good h E D room (record { facts = G; rows = W.rows }) L n

    abbrev v : ℕ → ℕ
    v = value m.values

    variable-small : (x : ℕ) → x < h.variables → x < 16
    variable-small x l = omega (arith, S.declares.few)

    -- ---- integers

    module _ (x a : ℕ) (i : IsInteger T h x) (small : a ≤ max_value) where
      abbrev w : ℕ → ℕ
      w = values_set m x a

      integer-good : (G : FactSet) (e : Effect) → (Assigned v w x a → Holds G w)
          → (Assigned v w x a → (r l u : ℕ) → r ≢ x → BoundsHold l u (known K r) v → BoundsHold l u (effect_on e K r) w)
          → GoodAfter G (bounds_after e K) (integer_set m x a)
      integer-good G e facts others =
          set-good T h E D room S W G K e m x a m.origins g i.below small g.steady.origins-long (λ r n. refl) facts others
          (λ is t. absurd (false≢true (sym (S.declares.integer x i) ∙ t)))

      pub integer-dropped : GoodAfter (dropped F x) (bounds_after (Forget x) K) (integer_set m x a)
      integer-dropped =
          integer-good (dropped F x) (Forget x)
          (λ is. dropped-holds F v w g.steady.range is.range g.facts x (variable-small x i.below) is.except)
          (others-forget K v w x a)

      pub integer-agree : Agree (x ∷ []) v w
      integer-agree z n = get_or-set_other m.values x z a 0 (among_one z x n)

    pub literal-left : (x k : ℕ) → IsInteger T h x → k ≤ max_value → GoodAfter (ranged F x k k) (bounds_after (Forget x) K) (integer_set m x k)
    literal-left x k i l =
        integer-good x k i l (ranged F x k k) (Forget x)
        (λ is. ranged-holds F v (values_set m x k) g.steady.range is.range g.facts x (variable-small x i.below) is.except k k
        (omega (arith, is.value-is)) (omega (arith, is.value-is)))
        (others-forget K v (values_set m x k) x k)

    module _ (x y k : ℕ) (i : IsInteger T h x) (j : IsInteger T h y) where
      abbrev sum : ℕ
      sum = (v y + k) % 2 ^ 32

      pub sum_left : (f s : Bool) → in_range F y k ≡ f → eqb x y ≡ s
          → GoodAfter (sum_facts f s F x y k) (bounds_after (cond (f && s) (Shift x k) (Forget x)) K) (integer_set m x sum)
      unfolding fact_rules.sum_facts
      sum_left false s p q = integer-dropped x sum i (remainder-small (v y + k))
      sum_left true s p q = in-range s q (sum-in-range F v g.steady.range g.facts y k (omega (arith, variable-small y j.below)) p)
        where
          in-range : (s : Bool) → eqb x y ≡ s → (bias ≤ v y + k) × (v y + k ≤ bias + max_value)
              → GoodAfter (cond s (shifted F x k) (equated (dropped F x) x y k)) (bounds_after (cond s (Shift x k) (Forget x)) K) (integer_set m x sum)
          in-range true q r =
              let same : v x ≡ v y = ap v (eqb-true x y q) in
              let raised : sum + bias ≡ v x + k = omega (arith, remainder-same (v y + k) r.0 r.1) in
              integer-good x sum i (remainder-small (v y + k)) (shifted F x k) (Shift x k)
              (λ is.
              shifted-holds F v (values_set m x sum) g.steady.range is.range g.facts x (variable-small x i.below) is.except k
              (omega (arith, is.value-is)))
              (λ is. others-shift K v (values_set m x sum) x k sum (omega (arith, is.value-is)) is)
          in-range false q r =
              integer-good x sum i (remainder-small (v y + k)) (equated (dropped F x) x y k) (Forget x)
              (λ is.
              equated-holds (dropped F x) (values_set m x sum) is.range
              (dropped-holds F v (values_set m x sum) g.steady.range is.range g.facts x (variable-small x i.below) is.except) x y k
              (omega (arith, is.value-is, is.except y (λ e. eqb-false x y q (sym e)), remainder-same (v y + k) r.0 r.1)))
              (others-forget K v (values_set m x sum) x sum)

    -- ---- pointers

    module _ (p a o : ℕ) (i : IsPointer T h p) (small : a ≤ max_value) where
      pointer-good : (G : FactSet) (e : Effect) → (Assigned v (values_set m p a) p a → Holds G (values_set m p a))
          → (Assigned v (values_set m p a) p a → (r l u : ℕ) → r ≢ p → BoundsHold l u (known K r) v → BoundsHold l u (effect_on e K r) (values_set m p a))
          → (Assigned v (values_set m p a) p a → get_or (set m.origins p o) p 0 ≡ o → TrueOf E D h.objects (pointer_set m p a o) p (effect_on e K p))
          → GoodAfter G (bounds_after e K) (pointer_set m p a o)
      pointer-good G e facts others own =
          set-good T h E D room S W G K e m p a (set m.origins p o) g i.below small (length-set m.origins p o ∙ g.steady.origins-long)
          (λ r n. get_or-set_other m.origins p r o 0 n) facts others
          (λ is t. own is (get_or-set_same m.origins p o 0 (omega (arith, i.below, g.steady.origins-long))))

      pub pointer-agree : Agree (p ∷ []) v (values_set m p a)
      pointer-agree z n = get_or-set_other m.values p z a 0 (among_one z p n)

      -- p in a range.
      ranged-fact : (bottom top : ℕ) → bottom ≤ a → a ≤ top → Assigned v (values_set m p a) p a → Holds (ranged F p bottom top) (values_set m p a)
      ranged-fact bottom top l u is =
          ranged-holds F v (values_set m p a) g.steady.range is.range g.facts p (variable-small p i.below) is.except bottom top
          (omega (arith, is.value-is)) (omega (arith, is.value-is))

    pub null-left : (p : ℕ) → IsPointer T h p → GoodAfter (ranged F p 0 0) (bounds_after (Forget p) K) (pointer_set m p 0 0)
    null-left p i =
        pointer-good p 0 0 i (omega arith) (ranged F p 0 0) (Forget p) (ranged-fact p 0 0 i (omega arith) 0 0 (omega arith) (omega arith))
        (others-forget K v (values_set m p 0) p 0) (λ is e. inl is.value-is)

    -- Where the bounds of an object's address end.
    span-top : (o : ℕ) → o < h.objects → low D o + object_span E o ≡ top E D o
    span-top o l =
        rw (S.declares.span o l, (S.placed o l).long) (limit-add (is_terminated E o) (low D o) (object_length E o) (S.declares.long o l))

    pub address-left : (p o : ℕ) → IsPointer T h p → o < h.objects → (is_string E p ≡ true → is_terminated E o ≡ true)
        → GoodAfter (ranged F p 1 max_value) (bounds_after (Object p (element_size E p) (object_span E o)) K) (pointer_set m p (low D o) (o + 1))
    unfolding bounds_rules.effect_on
    address-left p o i l fits =
        let placed = S.placed o l in
        let inside : high D o ≤ room = placed.inside in
        let small : low D o ≤ max_value = omega (arith, S.memory) in
        pointer-good p (low D o) (o + 1) i small (ranged F p 1 max_value) (Object p (element_size E p) (object_span E o))
        (ranged-fact p (low D o) (o + 1) i small 1 max_value placed.first small)
        (others-object K v (values_set m p (low D o)) p (element_size E p) (object_span E o) (low D o))
        (λ is e.
        inr (record {
          object = o;
          origin-is = e ∙ omega arith;
          exists = l;
          ended = fits;
          bounds = own is;
        }))
      where
        own : Assigned v (values_set m p (low D o)) p (low D o)
            → BoundsHold (low D o + bias) (top E D o + bias)
            (cond (eqb p p) (object_bounds p (element_size E p) (object_span E o)) (forget_bounds p (known K p))) (values_set m p (low D o))
        own is =
            let b = object-holds (low D o) (element_size E p) (object_span E o) p (values_set m p (low D o)) is.range (variable-small p i.below)
            is.value-is in
            rw (eq-eqb p p refl, ← (span-top o l)) b

    -- p becomes q moved to the address a, with the origin of q.
    module _ (p q a : ℕ) (i : IsPointer T h p) (j : IsPointer T h q) (small : a ≤ max_value)
        (fits : is_string E p ≡ true → is_string E q ≡ true) (null : v q ≡ 0 → a ≡ 0) where
      derived-own : (b : Bounds) → Assigned v (values_set m p a) p a → get_or (set m.origins p (get_or m.origins q 0)) p 0 ≡ get_or m.origins q 0
          → ((l u : ℕ) → BoundsHold l u (known K q) v → BoundsHold l u b (values_set m p a)) → TrueOf E D h.objects (derived_set m p q a) p b
      derived-own b is e k = carry E D h.objects m (derived_set m p q a) q p (known K q) b (g.bounds q (S.declares.pointer q j))
          (λ z. is.value-is ∙ null z) e k fits

      copy-good : (G : FactSet) → (Assigned v (values_set m p a) p a → Holds G (values_set m p a))
          → GoodAfter G (bounds_after (Copy p q) K) (derived_set m p q a)
      unfolding bounds_rules.effect_on
      copy-good G facts =
          pointer-good p a (get_or m.origins q 0) i small G (Copy p q) facts (others-copy K v (values_set m p a) p q a)
          (λ is e. derived-own _ is e (λ l u b. rw (eq-eqb p p refl) (forget-holds v (values_set m p a) p is.except l u (known K q) b)))

      forget-good : (G : FactSet) → p ≡ q → (Assigned v (values_set m p a) p a → Holds G (values_set m p a))
          → GoodAfter G (bounds_after (Forget p) K) (derived_set m p q a)
      unfolding bounds_rules.effect_on
      forget-good G s facts =
          pointer-good p a (get_or m.origins q 0) i small G (Forget p) facts (others-forget K v (values_set m p a) p a)
          (λ is e. derived-own _ is e (λ l u b. forget-holds v (values_set m p a) p is.except l u (known K p) (rw s b)))

      shift-good : (k : ℕ) (G : FactSet) → p ≡ q → a + bias ≡ v q + k → (Assigned v (values_set m p a) p a → Holds G (values_set m p a))
          → GoodAfter G (bounds_after (Shift p k) K) (derived_set m p q a)
      unfolding bounds_rules.effect_on
      shift-good k G s r facts =
          let same : v p ≡ v q = ap v s in
          pointer-good p a (get_or m.origins q 0) i small G (Shift p k) facts
          (λ is. others-shift K v (values_set m p a) p k a (omega (arith, is.value-is)) is)
          (λ is e.
          derived-own _ is e (λ l u b. shift-holds v (values_set m p a) p is.except k (omega (arith, is.value-is)) l u (known K p) (rw s b)))

      pub index-left : 1 ≤ a → (s : Bool) → eqb p q ≡ s
          → GoodAfter (ranged F p 1 max_value) (bounds_after (cond s (Forget p) (Copy p q)) K) (derived_set m p q a)
      index-left l true e = forget-good (ranged F p 1 max_value) (eqb-true p q e) (ranged-fact p a (get_or m.origins q 0) i small 1 max_value l small)
      index-left l false e = copy-good (ranged F p 1 max_value) (ranged-fact p a (get_or m.origins q 0) i small 1 max_value l small)

      module _ (k : ℕ) (moved : a + bias ≡ v q + k) (some : eqb k bias ≡ false → 1 ≤ a) where
        moved_facts : (s : Bool) → eqb p q ≡ s → Assigned v (values_set m p a) p a
            → Holds (cond s (shifted F p k) (equated (dropped F p) p q k)) (values_set m p a)
        moved_facts true e is =
            let same : v p ≡ v q = ap v (eqb-true p q e) in
            shifted-holds F v (values_set m p a) g.steady.range is.range g.facts p (variable-small p i.below) is.except k
            (omega (arith, is.value-is))
        moved_facts false e is =
            equated-holds (dropped F p) (values_set m p a) is.range
            (dropped-holds F v (values_set m p a) g.steady.range is.range g.facts p (variable-small p i.below) is.except) p q k
            (omega (arith, is.value-is, is.except q (λ s. eqb-false p q e (sym s))))

        offset-facts : (s z : Bool) → eqb p q ≡ s → eqb k bias ≡ z → Assigned v (values_set m p a) p a → Holds (offset_facts s z F p q k) (values_set m p a)
        unfolding fact_rules.offset_facts
        offset-facts s true e d is = moved_facts s e is
        offset-facts s false e d is =
            positive-holds (cond s (shifted F p k) (equated (dropped F p) p q k)) (values_set m p a) is.range (moved_facts s e is) p
            (omega (arith, is.value-is, some d))

        pub offset-left : (s z : Bool) → eqb p q ≡ s → eqb k bias ≡ z
            → GoodAfter (offset_facts s z F p q k) (bounds_after (cond s (Shift p k) (Copy p q)) K) (derived_set m p q a)
        offset-left true z e d = shift-good k (offset_facts true z F p q k) (eqb-true p q e) moved (offset-facts true z e d)
        offset-left false z e d = copy-good (offset_facts false z F p q k) (offset-facts false z e d)
