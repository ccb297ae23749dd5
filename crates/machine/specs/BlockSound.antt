-- A step from inside a block of an accepted routine stays inside, or leaves the block for what follows it; and it changes only what the block assigns.
use Rattle.statements.specs.declared.Statement.{Statement}
use Rattle.std.specs.Prelude.{ℕ, ◌+◌, ◌≡◌, ◌⊎◌, Bool, ℤ, length, None, Option, Some}
use Rattle.std.proofs.Math.Path.{refl}
use Rattle.std.proofs.Common.{◌∙◌}
use Rattle.std.proofs.Math.Logic.{inl, inr}
use Rattle.std.proofs.Math.Bool.{true, false}
use mathlib.Core.List.{List, [], ◌∷◌, ◌++◌}
use Rattle.chains.proofs.Sound.{InRange, Holds, joined-left-holds, joined-right-holds}
use Rattle.facts.specs.declared.FactSet.{FactSet}
use Rattle.words.specs.declared.sections.Sections.{Sections}
use Rattle.conditions.specs.Conditions.{negated_of}
use Rattle.conditions.specs.declared.Condition.{Condition}
use Rattle.statements.specs.Statements.{statement_at}
use Rattle.statements.specs.StatementLaws.{read-typed}
use Rattle.statements.specs.Typed.{SimpleTyped}
use Rattle.statements.specs.declared.Simple.{Simple}
use Rattle.statements.specs.declared.Simple.TheVariants.{Literal, AddConstant, Arithmetic, Null, Address}
use Rattle.statements.specs.declared.Simple.TheVariants.{PointerOffset, PointerIndex, Load, Store, Check, Declare}
use Rattle.statements.specs.declared.Statement.TheVariants.{Plain, If, While, Bundle, Call}
use Rattle.blocks.specs.Tree.{Block, nil, plain, branch, loop, bundle, call, unread, target, targets, call_target, assigned}
use Rattle.blocks.specs.Flow.{Successors, successors, entry, lead}
use Rattle.blocks.specs.Shape.{size}
use Rattle.rules.specs.FactSets.{State}
use Rattle.rules.specs.Stored.{loop_facts, entries_unshown, entry_facts, effect, bundle_bounds, bundle_faults, sides_joined, block_faults, bounds_after}
use Rattle.rules.specs.Stored.{state_after, called_state, assumed, at_head, access_in, unshown_in, declared_in, bundle_after, block_after}
use Rattle.rules.specs.FactsTrue.{Agree, among-left, among-right, loop-facts-hold}
use Rattle.rules.proofs.ListedLaws.{EntriesTrue, entries-true, entries-hold}
use Rattle.listed.specs.Entries.{entries_of}
use Rattle.listed.specs.declared.Entry.{Entry}
use Rattle.rules.specs.BoundsRules.{is_pointer, known, in_force}
use Rattle.blocks.specs.LayoutLaws.{no-first, no-rest}
use Rattle.rules.specs.RuleLaws.{access-passed, bounds-passed, rows-passed}
use Rattle.rules.specs.declared.Bounds.{Bounds}
use Rattle.rules.specs.declared.Environment.{Environment}
use Rattle.machine.specs.Machine.{value, condition_holds, Failing, none, fails, failing, Memory, Performed, done, no_step}
use Rattle.machine.specs.Machine.{performed, Point, memory_of, moved, halted, after_checks, branched, statement_step}
use Rattle.machine.specs.Good.{Setting, Good, with-facts, shown-true, redeclared, declared-true}
use Rattle.machine.specs.ConditionSound.{condition-holds, negated-holds}
use Rattle.machine.specs.AccessSound.{Ready}
use Rattle.machine.specs.SimpleSound.{Done, done-map}
use Rattle.machine.specs.PerformedSound.{performed-good}
use Rattle.machine.specs.SetMachine.{Returned, returned_to}
use Rattle.machine.specs.CallSound.{GoodReturn, returned-good}
use Rattle.machine.specs.Places.{LinkedLine, Linked, Stands, AtLine, Framed, head_state, At, StandsAt}
use Rattle.rules.specs.Calls.{Routine, result_effect}
use Rattle.rules.specs.BoundsRules as bounds_rules
use Rattle.rules.specs.Rules as walk_rules

-- A step leads on, to a statement and a memory of which G holds, or is stopped by a check.
pub data Fine (G : ℕ → Memory → Type 0) (P : Point) : Point → Type 0 where
  leads : (n : ℕ) (m : Memory) → G n m → Fine G P (moved P m n)
  stops : (c : ℕ) → Fine G P (halted P c)

fine-map : {G H : ℕ → Memory → Type 0} {P Q : Point} → ((n : ℕ) (m : Memory) → G n m → H n m) → Fine G P Q → Fine H P Q
fine-map f (leads n m g) = leads n m (f n m g)
fine-map f (stops c) = stops c

-- A statement that has a step where no check fails.
checked : (G : ℕ → Memory → Type 0) (P : Point) (n : ℕ) (c : Failing) (r : Performed) → (c ≡ none → Done (G n) r) → Fine G P (after_checks c P n r)
checked G P n (fails c) r k = stops c
checked G P n none (done m) k = leads n m (k refl)
checked G P n none no_step k = absurd (k refl)

-- The step of a routine in which a call is one step too, where `ret` is what its callee leaves.
unfoldable pub frame_step : Environment → List ℕ → Returned → Option Statement → Successors → Point → Point
frame_step E D ret (Some (Plain s)) n P = statement_step E D (Some (Plain s)) n P
frame_step E D ret (Some (If c x y)) n P = statement_step E D (Some (If c x y)) n P
frame_step E D ret (Some (While c x)) n P = statement_step E D (Some (While c x)) n P
frame_step E D ret (Some (Bundle x)) n P = statement_step E D (Some (Bundle x)) n P
frame_step E D ret (Some (Call c)) n P = moved P (returned_to (memory_of P) c ret) n.next
frame_step E D ret None n P = statement_step E D None n P

into : {A B C : Type 0} → B ⊎ C → (A ⊎ B) ⊎ C
into (inl b) = inl (inr b)
into (inr c) = inr c

module _ (T : List ℤ) (h : Sections) (E : Environment) (D : List ℕ) (room : ℕ) (S : Setting T h E D room) where
  abbrev GoodAt : State FactSet → List Bounds → Memory → Type 0
  GoodAt F K m = Good h E D room F K m

  -- Outside a bundle.
  abbrev GoodOut : State FactSet → Memory → Type 0
  GoodOut F m = Good h E D room F (declared_in E F) m

  pub ready-inside : (s : Simple) (F : State FactSet) (K : List Bounds) (m : Memory) → SimpleTyped T h s → access_in E F K s ≡ true → GoodAt F K m
      → Ready (in_force E m.rows) D h.objects s m
  unfolding bounds_rules.access_shown
  ready-inside (Literal x k) F K m t e g = tt
  ready-inside (AddConstant x y k) F K m t e g = tt
  ready-inside (Arithmetic x y z op) F K m t e g = tt
  ready-inside (Null p) F K m t e g = tt
  ready-inside (Address p o) F K m t e g = tt
  ready-inside (PointerOffset p q k) F K m t e g = tt
  ready-inside (PointerIndex p q i) F K m t e g = tt
  ready-inside (Load x p i k) F K m t e g =
      let q = S.declares.pointer p t.pointer in
      rw g.rows (shown-true T h E D room S F.facts F.rows m p (known K p) g.named q g.steady g.facts e (g.bounds p q))
  ready-inside (Store p i k x) F K m t e g =
      let q = S.declares.pointer p t.pointer in
      rw g.rows (shown-true T h E D room S F.facts F.rows m p (known K p) g.named q g.steady g.facts e (g.bounds p q))
  ready-inside (Check c) F K m t e g = tt
  ready-inside (Declare p r) F K m t e g = tt

  pub ready-outside : (s : Simple) (F : State FactSet) (m : Memory) → SimpleTyped T h s → GoodOut F m → Ready (in_force E m.rows) D h.objects s m
  ready-outside (Literal x k) F m t g = tt
  ready-outside (AddConstant x y k) F m t g = tt
  ready-outside (Arithmetic x y z op) F m t g = tt
  ready-outside (Null p) F m t g = tt
  ready-outside (Address p o) F m t g = tt
  ready-outside (PointerOffset p q k) F m t g = tt
  ready-outside (PointerIndex p q i) F m t g = tt
  ready-outside (Load x p i k) F m t g = declared-true T h E D room S F m p (S.declares.pointer p t.pointer) g
  ready-outside (Store p i k x) F m t g = declared-true T h E D room S F m p (S.declares.pointer p t.pointer) g
  ready-outside (Check c) F m t g = tt
  ready-outside (Declare p r) F m t g = tt

  -- The facts at the head of a loop, from the values that held before it, and its entries, which are true now.
  framed-head : (es : List Entry) (A : List ℕ) (F : FactSet) (m : Memory) → Framed A F m → InRange (value m.values) → EntriesTrue es (value m.values)
      → Holds (entry_facts es (loop_facts A F)) (value m.values)
  framed-head es A F m w r t =
      entries-hold es (loop_facts A F) (value m.values) r (loop-facts-hold A F w.old (value m.values) w.range r w.held w.agree) t

  -- L is the list of loop facts; `callees` are the routines that may be called, and `ret` is what a callee leaves.
  module _ (f : ℕ → Successors) (L : List ℤ) (callees : List Routine) (ret : Returned) (good-return : GoodReturn E D h.objects room ret) where
    -- ---- what a walk without faults says of the parts

    module _ (a : ℕ) (c : Condition) (t e r : Block) (F : State FactSet) (q : block_faults E L callees (branch a c t e r) F ≡ []) where
      then-clear : block_faults E L callees t (assumed F c) ≡ []
      unfolding walk_rules.block_faults
      then-clear = no-first _ _ q

      else-clear : block_faults E L callees e (assumed F (negated_of c)) ≡ []
      unfolding walk_rules.block_faults
      else-clear = no-first _ _ (no-rest _ _ q)

      -- 13 does not refuse: the sides of an if leave the same rows in force.
      sides-same : (block_after E L t (assumed F c)).rows ≡ (block_after E L e (assumed F (negated_of c))).rows
      unfolding walk_rules.block_faults
      sides-same = rows-passed a _ _ (no-first _ _ (no-rest _ _ (no-rest _ _ q)))

      joined-clear : block_faults E L callees r (sides_joined E (block_after E L t (assumed F c)) (block_after E L e (assumed F (negated_of c)))) ≡ []
      unfolding walk_rules.block_faults
      joined-clear = no-rest _ _ (no-rest _ _ (no-rest _ _ q))

    module _ (a : ℕ) (c : Condition) (t r : Block) (F : State FactSet) (q : block_faults E L callees (loop a c t r) F ≡ []) where
      -- 17 does not refuse: the entries of the loop are shown before it and at the end of its body.
      entries-before : entries_unshown (entries_of L a) F.facts ≡ []
      unfolding walk_rules.block_faults
      entries-before = no-first _ _ q

      body-clear : block_faults E L callees t (assumed (head_state h E D room L a t F) c) ≡ []
      unfolding walk_rules.block_faults
      body-clear = no-first _ _ (no-rest _ _ q)

      entries-again : entries_unshown (entries_of L a) (block_after E L t (assumed (head_state h E D room L a t F) c)).facts ≡ []
      unfolding walk_rules.block_faults
      entries-again = no-first _ _ (no-rest _ _ (no-rest _ _ q))

      -- 13 does not refuse: so do the head and the end of a body.
      ends_same : F.rows ≡ (block_after E L t (assumed (head_state h E D room L a t F) c)).rows
      unfolding walk_rules.block_faults
      ends_same = rows-passed a _ _ (no-first _ _ (no-rest _ _ (no-rest _ _ (no-rest _ _ q))))

      left-clear : block_faults E L callees r (assumed (head_state h E D room L a t F) (negated_of c)) ≡ []
      unfolding walk_rules.block_faults
      left-clear = no-rest _ _ (no-rest _ _ (no-rest _ _ (no-rest _ _ q)))

    -- Arriving at a block: at its first statement, or at what follows an empty one.
    pub enter : (b : Block) (F : State FactSet) (after d : ℕ) (m : Memory) → Linked T h f b after → block_faults E L callees b F ≡ [] → d ≡ entry b after
        → GoodOut F m
        → At h E D room L b F d m ⊎ StandsAt h E D room after (block_after E L b F) d m
    unfolding entry walk_rules.block_after
    enter nil F after d m l q e g = inr (e, g)
    enter (plain a s r) F after d m l q e g = inl (inl (e, g))
    enter (branch a c t u r) F after d m l q e g = inl (inl (e, g))
    enter (loop a c t r) F after d m l q e g =
        let A = assigned t in
        let w : Framed A F.facts m = record { old = value m.values; held = g.facts; range = g.steady.range; agree = λ z q. refl } in
        let v = entries-true (entries_of L a) F.facts (value m.values) g.facts (entries-before a c t r F q) in
        inl (inl (
          w,
          inl (
            (
              e,
              with-facts h E D room F (at_head (entries_of L a) A F) (declared_in E F) m g refl (framed-head (entries_of L a) A F.facts m w
                  g.steady.range v),
            ),
            v,
          ),
        ))
    enter (bundle a ss r) F after d m l q e g = inl (inl (e, g))
    enter (call a c r) F after d m l q e g = inl (inl (e, g))
    enter (unread a) F after d m l q e g = absurd l

    enter-line : (a : ℕ) (ss : List Simple) (F : State FactSet) (K : List Bounds) (after d : ℕ) (m : Memory) → d ≡ lead a (length ss) after → GoodAt F K m
        → AtLine h E D room a ss F K d m ⊎ Stands h E D room after (bundle_after ss F) (bundle_bounds E ss F K) d m
    unfolding lead walk_rules.bundle_after walk_rules.bundle_bounds
    enter-line a [] F K after d m e g = inr (e, g)
    enter-line a (s ∷ ss) F K after d m e g = inl (inl (e, g))

    abbrev step : Point → Point
    step P = frame_step E D ret (statement_at T h P.due) (f P.due) P

    step-at : (P : Point) (a : ℕ) (r : Option Statement) (s : Successors) → P.due ≡ a → statement_at T h a ≡ r → f a ≡ s → step P ≡ frame_step E D ret r s P
    step-at P a r s d e q = rw (d, e, q)

    abbrev Goal : Block → State FactSet → ℕ → Memory → ℕ → Memory → Type 0
    Goal b F after m d n = (At h E D room L b F d n ⊎ StandsAt h E D room after (block_after E L b F) d n)
        × Agree (assigned b) (value m.values) (value n.values)

    abbrev GoalLine : ℕ → List Simple → State FactSet → List Bounds → ℕ → Memory → ℕ → Memory → Type 0
    GoalLine a ss F K after m d n =
        (AtLine h E D room a ss F K d n ⊎ Stands h E D room after (bundle_after ss F) (bundle_bounds E ss F K) d n)
        × Agree (targets ss) (value m.values) (value n.values)

    -- ---- bundles

    line_step : (a : ℕ) (ss : List Simple) (F : State FactSet) (K : List Bounds) (after : ℕ) (P : Point) → LinkedLine T h f a ss after
        → bundle_faults E a ss F K ≡ []
        → AtLine h E D room a ss F K P.due (memory_of P) → Fine (GoalLine a ss F K after (memory_of P)) P (step P)
    unfolding walk_rules.bundle_faults walk_rules.bundle_after walk_rules.bundle_bounds targets statement_step frame_step
    line_step a [] F K after P l q i = absurd i
    line_step a (s ∷ ss) F K after P l q (inl i) =
        let typed = read-typed T h a (Plain s) l.0 in
        let shown = access-passed (access_in E F K s) a (no-first _ _ q) in
        let next = lead (a + 1) (length ss) after in
        rw (step-at P a _ _ i.0 l.0 l.1)
        (checked (GoalLine a (s ∷ ss) F K after (memory_of P)) P next (failing (in_force E P.rows) P.values s) (performed E D s (memory_of P))
        (λ e.
        done-map
        (λ n w. (
          into (enter-line (a + 1) ss (state_after s F) (bounds_after (effect E F.facts s) K) after next n refl w.good),
          λ z r. w.agree z (among-left z (target s) (targets ss) r),
        ))
        (performed E D s (memory_of P)) (performed-good T h E D room S F K (memory_of P) i.1 s typed (ready-inside s F K (memory_of P) typed shown i.1) e)))
    line_step a (s ∷ ss) F K after P l q (inr i) =
        fine-map (λ d n w. (into w.0, λ z r. w.1 z (among-right z (target s) (targets ss) r)))
        (line_step (a + 1) ss (state_after s F) (bounds_after (effect E F.facts s) K) after P l.2 (no-rest _ _ (no-rest _ _ q)) i)

    -- The end of a bundle: all declared bounds are shown.
    bundle-out : (a : ℕ) (ss : List Simple) (r : Block) (F : State FactSet) (after d : ℕ) (m : Memory) → Linked T h f r after
        → block_faults E L callees r (bundle_after ss F) ≡ [] → unshown_in E (bundle_after ss F) (bundle_bounds E ss F (declared_in E F)) ≡ []
        → AtLine h E D room (a + 1) ss F (declared_in E F) d m
        ⊎ Stands h E D room (entry r after) (bundle_after ss F) (bundle_bounds E ss F (declared_in E F)) d m
        → At h E D room L (bundle a ss r) F d m ⊎ StandsAt h E D room after (block_after E L (bundle a ss r) F) d m
    unfolding walk_rules.block_after
    bundle-out a ss r F after d m l u q (inl x) = inl (inr (inl x))
    bundle-out a ss r F after d m l u q (inr x) =
        into (into (enter r (bundle_after ss F) after d m l u x.0
        (redeclared T h E D room S (bundle_after ss F) (bundle_bounds E ss F (declared_in E F)) m q x.1)))

    -- ---- ifs

    module _ (a : ℕ) (c : Condition) (t e r : Block) (F : State FactSet) (after : ℕ) (l : Linked T h f (branch a c t e r) after)
        (q : block_faults E L callees (branch a c t e r) F ≡ []) where
      abbrev then_state : State FactSet
      then_state = block_after E L t (assumed F c)

      abbrev else_state : State FactSet
      else_state = block_after E L e (assumed F (negated_of c))

      -- Where the sides meet.
      join-out : (d : ℕ) (m : Memory) → StandsAt h E D room (entry r after) (sides_joined E then_state else_state) d m
          → At h E D room L (branch a c t e r) F d m ⊎ StandsAt h E D room after (block_after E L (branch a c t e r) F) d m
      unfolding walk_rules.block_after
      join-out d m x = into (into (into (enter r (sides_joined E then_state else_state) after d m l.4 (joined-clear a c t e r F q) x.0 x.1)))

      then-out : (d : ℕ) (m : Memory) → At h E D room L t (assumed F c) d m ⊎ StandsAt h E D room (entry r after) then_state d m
          → At h E D room L (branch a c t e r) F d m ⊎ StandsAt h E D room after (block_after E L (branch a c t e r) F) d m
      then-out d m (inl x) = inl (inr (inl x))
      then-out d m (inr x) =
          join-out d m (
            x.0,
            with-facts h E D room then_state (sides_joined E then_state else_state) (declared_in E then_state) m x.1 refl
                (joined-left-holds (is_pointer E) then_state.facts else_state.facts (value m.values) x.1.steady.range x.1.facts),
          )

      else-out : (d : ℕ) (m : Memory) → At h E D room L e (assumed F (negated_of c)) d m ⊎ StandsAt h E D room (entry r after) else_state d m
          → At h E D room L (branch a c t e r) F d m ⊎ StandsAt h E D room after (block_after E L (branch a c t e r) F) d m
      else-out d m (inl x) = inl (inr (inr (inl x)))
      else-out d m (inr x) =
          join-out d m (
            x.0,
            rw (sides-same a c t e r F q)
                (with-facts h E D room else_state (record { facts = (sides_joined E then_state else_state).facts; rows = else_state.rows })
                (declared_in E else_state) m x.1 refl
                (joined-right-holds (is_pointer E) then_state.facts else_state.facts (value m.values) x.1.steady.range x.1.facts)),
          )

      branch-head : (P : Point) → GoodOut F (memory_of P) → (b : Bool) → condition_holds P.values c ≡ b
          → Fine (Goal (branch a c t e r) F after (memory_of P)) P (branched b P (successors a (entry t (entry r after)) (entry e (entry r after))))
      branch-head P g true z =
          leads (entry t (entry r after)) (memory_of P) (
            then-out (entry t (entry r after)) (memory_of P)
                (enter t (assumed F c) (entry r after) (entry t (entry r after)) (memory_of P) l.2 (then-clear a c t e r F q) refl
                (with-facts h E D room F (assumed F c) (declared_in E F) (memory_of P) g refl
                (condition-holds F.facts P.values g.steady.range g.facts c z))),
            λ z n. refl,
          )
      branch-head P g false z =
          let typed = read-typed T h a (If c (size t) (size e)) l.0 in
          leads (entry e (entry r after)) (memory_of P) (
            else-out (entry e (entry r after)) (memory_of P)
                (enter e (assumed F (negated_of c)) (entry r after) (entry e (entry r after)) (memory_of P) l.3 (else-clear a c t e r F q) refl
                (with-facts h E D room F (assumed F (negated_of c)) (declared_in E F) (memory_of P) g refl
                (negated-holds F.facts P.values g.steady.range g.facts c typed.condition.relation z))),
            λ z n. refl,
          )

    -- ---- whiles

    module _ (a : ℕ) (c : Condition) (t r : Block) (F : State FactSet) (after : ℕ) (l : Linked T h f (loop a c t r) after)
        (q : block_faults E L callees (loop a c t r) F ≡ []) where
      abbrev dropped : List ℕ
      dropped = assigned t

      abbrev head : State FactSet
      head = at_head (entries_of L a) dropped F

      -- The end of the body makes the while due: all that the body changed was dropped at the head, and the entries are shown again.
      loop-out : (d : ℕ) (m : Memory) → Framed dropped F.facts m
          → At h E D room L t (assumed head c) d m ⊎ StandsAt h E D room a (block_after E L t (assumed head c)) d m
          → At h E D room L (loop a c t r) F d m ⊎ StandsAt h E D room after (block_after E L (loop a c t r) F) d m
      loop-out d m w (inl x) = inl (inl (w, inr x))
      loop-out d m w (inr x) =
          let v = entries-true (entries_of L a) (block_after E L t (assumed head c)).facts (value m.values) x.1.facts (entries-again a c t r F q) in
          inl (inl (
            w,
            inl (
              (
                x.0,
                rw (ends_same a c t r F q) (with-facts h E D room (block_after E L t (assumed head c))
                    (record { facts = head.facts; rows = (block_after E L t (assumed head c)).rows })
                    (declared_in E (block_after E L t (assumed head c))) m x.1 refl
                    (framed-head (entries_of L a) dropped F.facts m w x.1.steady.range v)),
              ),
              v,
            ),
          ))

      loop-head : (P : Point) → Framed dropped F.facts (memory_of P) → GoodOut head (memory_of P) → (b : Bool) → condition_holds P.values c ≡ b
          → Fine (Goal (loop a c t r) F after (memory_of P)) P (branched b P (successors a (entry t a) (entry r after)))
      unfolding walk_rules.block_after
      loop-head P w g true z =
          leads (entry t a) (memory_of P) (
            loop-out (entry t a) (memory_of P) w
                (enter t (assumed head c) a (entry t a) (memory_of P) l.2 (body-clear a c t r F q) refl
                (with-facts h E D room head (assumed head c) (declared_in E F) (memory_of P) g refl
                (condition-holds head.facts P.values g.steady.range g.facts c z))),
            λ z n. refl,
          )
      loop-head P w g false z =
          let typed = read-typed T h a (While c (size t)) l.0 in
          leads (entry r after) (memory_of P) (
            into (enter r (assumed head (negated_of c)) after (entry r after) (memory_of P) l.3 (left-clear a c t r F q) refl
                (with-facts h E D room head (assumed head (negated_of c)) (declared_in E F) (memory_of P) g refl
                (negated-holds head.facts P.values g.steady.range g.facts c typed.condition.relation z))),
            λ z n. refl,
          )

      -- A step in the body keeps what was dropped apart from what was not.
      framed-step : (m n : Memory) → Framed dropped F.facts m → Agree dropped (value m.values) (value n.values) → Framed dropped F.facts n
      framed-step m n w u = record { old = w.old; held = w.held; range = w.range; agree = λ z q. u z q ∙ w.agree z q }

    -- ---- every block

    pub block-step : (b : Block) (F : State FactSet) (after : ℕ) (P : Point) → Linked T h f b after → block_faults E L callees b F ≡ []
        → At h E D room L b F P.due (memory_of P)
        → Fine (Goal b F after (memory_of P)) P (step P)
    unfolding walk_rules.block_faults walk_rules.block_after assigned statement_step frame_step
    block-step nil F after P l q i = absurd i
    block-step (plain a s r) F after P l q (inl i) =
        let typed = read-typed T h a (Plain s) l.0 in
        let shown = bounds-passed a _ (no-first _ _ (no-rest _ _ q)) in
        rw (step-at P a _ _ i.0 l.0 l.1)
        (checked (Goal (plain a s r) F after (memory_of P)) P (entry r after) (failing (in_force E P.rows) P.values s) (performed E D s (memory_of P))
        (λ e.
        done-map
        (λ n w. (
          into (enter r (state_after s F) after (entry r after) n l.2 (no-rest _ _ (no-rest _ _ q)) refl
              (redeclared T h E D room S (state_after s F) (bounds_after (effect E F.facts s) (declared_in E F)) n shown w.good)),
          λ z u. w.agree z (among-left z (target s) (assigned r) u),
        ))
        (performed E D s (memory_of P))
        (performed-good T h E D room S F (declared_in E F) (memory_of P) i.1 s typed (ready-outside s F (memory_of P) typed i.1) e)))
    block-step (plain a s r) F after P l q (inr i) =
        fine-map (λ d n w. (into w.0, λ z u. w.1 z (among-right z (target s) (assigned r) u)))
        (block-step r (state_after s F) after P l.2 (no-rest _ _ (no-rest _ _ q)) i)
    block-step (branch a c t e r) F after P l q (inl i) =
        rw (step-at P a _ _ i.0 l.0 l.1) (branch-head a c t e r F after l q P i.1 (condition_holds P.values c) refl)
    block-step (branch a c t e r) F after P l q (inr (inl i)) =
        fine-map (λ d n w. (
          then-out a c t e r F after l q d n w.0,
          λ z u. w.1 z (among-left z (assigned t) (assigned e ++ assigned r) u),
        ))
        (block-step t (assumed F c) (entry r after) P l.2 (then-clear a c t e r F q) i)
    block-step (branch a c t e r) F after P l q (inr (inr (inl i))) =
        fine-map
        (λ d n w. (
          else-out a c t e r F after l q d n w.0,
          λ z u. w.1 z (among-left z (assigned e) (assigned r) (among-right z (assigned t) (assigned e ++ assigned r) u)),
        ))
        (block-step e (assumed F (negated_of c)) (entry r after) P l.3 (else-clear a c t e r F q) i)
    block-step (branch a c t e r) F after P l q (inr (inr (inr i))) =
        fine-map
        (λ d n w.
        (into (into (into w.0)), λ z u. w.1 z (among-right z (assigned e) (assigned r) (among-right z (assigned t) (assigned e ++ assigned r) u))))
        (block-step r (sides_joined E (block_after E L t (assumed F c)) (block_after E L e (assumed F (negated_of c)))) after P l.4
        (joined-clear a c t e r F q) i)
    block-step (loop a c t r) F after P l q (inl (w, inl i)) =
        rw (step-at P a _ _ i.0.0 l.0 l.1) (loop-head a c t r F after l q P w i.0.1 (condition_holds P.values c) refl)
    block-step (loop a c t r) F after P l q (inl (w, inr i)) =
        fine-map
        (λ d n x. (
          loop-out a c t r F after l q d n (framed-step a c t r F after l q (memory_of P) n w x.1) x.0,
          λ z u. x.1 z (among-left z (assigned t) (assigned r) u),
        ))
        (block-step t (assumed (head_state h E D room L a t F) c) a P l.2 (body-clear a c t r F q) i)
    block-step (loop a c t r) F after P l q (inr i) =
        fine-map (λ d n w. (into w.0, λ z u. w.1 z (among-right z (assigned t) (assigned r) u)))
        (block-step r (assumed (head_state h E D room L a t F) (negated_of c)) after P l.3 (left-clear a c t r F q) i)
    block-step (bundle a ss r) F after P l q (inl i) =
        let next = lead (a + 1) (length ss) (entry r after) in
        let shown = bounds-passed a _ (no-first _ _ (no-rest _ _ q)) in
        rw (step-at P a _ _ i.0 l.0 l.1)
        (leads next (memory_of P) (
          bundle-out a ss r F after next (memory_of P) l.3 (no-rest _ _ (no-rest _ _ q)) shown (enter-line (a + 1) ss F (declared_in E F)
              (entry r after) next (memory_of P) refl i.1),
          λ z u. refl,
        ))
    block-step (bundle a ss r) F after P l q (inr (inl i)) =
        let shown = bounds-passed a _ (no-first _ _ (no-rest _ _ q)) in
        fine-map (λ d n w. (
          bundle-out a ss r F after d n l.3 (no-rest _ _ (no-rest _ _ q)) shown w.0,
          λ z u. w.1 z (among-left z (targets ss)
              (assigned r) u),
        ))
        (line_step (a + 1) ss F (declared_in E F) (entry r after) P l.2 (no-first _ _ q) i)
    block-step (bundle a ss r) F after P l q (inr (inr i)) =
        fine-map (λ d n w. (into (into w.0), λ z u. w.1 z (among-right z (targets ss) (assigned r) u)))
        (block-step r (bundle_after ss F) after P l.3 (no-rest _ _ (no-rest _ _ q)) i)
    block-step (call a c r) F after P l q (inl i) =
        let typed = read-typed T h a (Call c) l.0 in
        let shown = bounds-passed a _ (no-first _ _ (no-rest _ _ q)) in
        let back = returned-good T h E D room S F (declared_in E F) (memory_of P) c typed ret good-return i.1 in
        rw (step-at P a _ _ i.0 l.0 l.1)
        (leads (entry r after) (returned_to (memory_of P) c ret) (
          into (enter r (called_state c F) after (entry r after) (returned_to (memory_of P) c ret) l.2 (no-rest _ _ (no-rest _ _ q)) refl
              (redeclared T h E D room S (called_state c F) (bounds_after (result_effect c) (declared_in E F)) (returned_to (memory_of P) c ret) shown back.0)),
          λ z u. back.1 z (among-left z (call_target c) (assigned r) u),
        ))
    block-step (call a c r) F after P l q (inr i) =
        fine-map (λ d n w. (into w.0, λ z u. w.1 z (among-right z (call_target c) (assigned r) u)))
        (block-step r (called_state c F) after P l.2 (no-rest _ _ (no-rest _ _ q)) i)
    block-step (unread a) F after P l q i = absurd l
