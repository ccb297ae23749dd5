-- Soundness: at every point of a begun run of an accepted routine the machine has a step or has ended, every access is inside its origin object,
-- outside bundles the declared bounds of every pointer are true, and the last cell of each terminated object is 0.
use Rattle.statements.specs.declared.Statement.{Statement}
use Prim.Native.Nat.{ℕ, zero, suc, ◌≤◌, ◌<◌}
use Rattle.std.proofs.Math.Path.{◌≡◌, refl}
use Rattle.std.proofs.Common.{sym, ap, ◌∙◌, inl, inr, arith, ltb-true}
use Rattle.std.specs.Prelude.{◌≢◌, ◌⊎◌, Bool, true, false, List, [], ltb, ℤ, length, None, Ok, Option, Some}
use Rattle.std.proofs.lemmas.Bool.{false≢true}
use Rattle.facts.specs.Store.{contradictory}
use Rattle.facts.specs.declared.FactSet.{FactSet}
use Rattle.chains.specs.Facts.{Variables, Contradiction}
use Rattle.chains.specs.History.{known}
use Rattle.chains.proofs.HistoryLaws.{contradicts-exactly}
use Rattle.chains.proofs.Sound.{Holds}
use Rattle.words.specs.Typed.{IsIndex, missing, given}
use Rattle.conditions.specs.declared.Condition.{Condition}
use Rattle.statements.specs.Typed.{SimpleTyped}
use Rattle.words.specs.declared.sections.Sections.{Sections}
use Rattle.statements.specs.Statements.{statement_at}
use Rattle.statements.specs.StatementLaws.{read-typed, read-within}
use Rattle.statements.specs.declared.Simple.{Simple}
use Rattle.statements.specs.declared.Simple.TheVariants.{Literal, AddConstant, Arithmetic, Null, Address}
use Rattle.statements.specs.declared.Simple.TheVariants.{PointerOffset, PointerIndex, Load, Store, Check, Declare}
use Rattle.statements.specs.declared.Statement.TheVariants.{Plain, If, While, Bundle, Call}
use Rattle.table.specs.Form.{form_of}
use Rattle.table.specs.FormLaws.{well-formed}
use Rattle.blocks.specs.Tree.{tree, assigned}
use Rattle.blocks.specs.Flow.{successors, table_entry}
use Rattle.blocks.specs.ShapeLaws.{table-laid}
use Rattle.blocks.specs.SuccessorLaws.{flow-right}
use Rattle.rules.specs.FactsTrue.{Agree}
use Rattle.rules.specs.FactSets.{State}
use Rattle.rules.specs.BoundsRules.{is_pointer, declared, own_rows, in_force}
use Rattle.rules.specs.EnvironmentLaws.{Declares, environment-declares, Named}
use Rattle.rules.specs.Stored.{store, faults, new_state, declared_in, safe_in, access_safe, block_after, block_faults}
use Rattle.rules.proofs.ListedLaws.{EntriesTrue, entries-right}
use Rattle.listed.specs.Entries.{entries_of}
use Rattle.rules.specs.BoundsRules as bounds_rules
use Rattle.rules.specs.StateBefore.{state_before}
use Rattle.rules.proofs.BeforeLaws.{before-represented}
use Rattle.rules.proofs.StateRepresentation.{new-represented}
use Rattle.rules.specs.ByChains.{Decider, by_chains, variables, DecidesTable}
use Rattle.rules.specs.Verdict.{environment_of}
use Rattle.rules.specs.AcceptedLaws.{clear}
use Rattle.rules.specs.declared.Environment.{Environment}
use Rattle.machine.specs.Machine.{value, bounds_true, Failing, none, fails, failing, Memory, Status, going, stopped, stuck}
use Rattle.machine.specs.Machine.{Point, memory_of, statement_step, successors_of, step_if_due, next_point, start}
use Rattle.machine.specs.AlonePoints.{point_after}
use Rattle.machine.specs.Points.{in_bundle, simple_access, unless_failing, statement_access, access_if, access_from, LastZero}
use Rattle.machine.specs.Soundness.{AccessRight, AccessAllowed, Begun, Sound}
use Rattle.machine.specs.Good.{Setting, Steady, Good, declared-true}
use Rattle.machine.specs.AccessSound.{Inside, Ready, inside-origin, access-inside, safe-load, safe-store}
use Rattle.machine.specs.Places.{Linked, linked, At, StandsAt}
use Rattle.machine.specs.BlockSound.{Fine, leads, stops, enter, frame_step, block-step}
use Rattle.machine.specs.SetMachine.{Returned}
use Rattle.machine.specs.CallSound.{GoodReturn}
use Rattle.rules.specs.Calls.{Routine}
use Rattle.rules.specs.CallLaws.{call-passed}
use Rattle.statements.specs.declared.CallSite.{CallSite}
use Rattle.machine.specs.Standing.{Standing, standing}
use Rattle.machine.specs.Before.{Before, before-due}
use Rattle.machine.specs.EntrySound.{true-test, begun-good}
use Rattle.rules.specs.Rules as walk_rules

module _ (T : List ℤ) (h : Sections) (E : Environment) (D : List ℕ) (room : ℕ) (L : List ℤ) where
  -- What the proof carries from point to point: the place in the tree with its facts and bounds, or the end of the table.
  pub record Invariant (P : Point) : Type 0 where
    pub has-step : P.status ≢ stuck
    pub place : At h E D room L (tree T h) new_state P.due (memory_of P)
        ⊎ StandsAt h E D room h.statements (block_after E L (tree T h) new_state) P.due (memory_of P)

  -- `callees` are the routines that it may call.
  module _ (S : Setting T h E D room) (callees : List Routine) (walked : block_faults E L callees (tree T h) new_state ≡ []) where
    links : Linked T h (successors_of T h E D) (tree T h) h.statements
    links =
        let l = table-laid T h S.laid in
        linked T h (successors_of T h E D) (tree T h) h.statements l.reads (flow-right T h S.laid (successors 0 0 0))

    -- ---- what the invariant says

    abbrev pub Somewhere : Point → Type 0
    Somewhere P = Standing T h E D room L callees (tree T h) P.due (memory_of P)
        ⊎ ((P.due ≡ h.statements) × Good h E D room (block_after E L (tree T h) new_state) (declared_in E (block_after E L (tree T h) new_state)) (memory_of P))

    pub somewhere : (P : Point) → Invariant P → Somewhere P
    somewhere P i = go i.place
      where
        go : At h E D room L (tree T h) new_state P.due (memory_of P)
            ⊎ StandsAt h E D room h.statements (block_after E L (tree T h) new_state) P.due (memory_of P)
            → Somewhere P
        go (inl x) = inl (standing T h E D room L callees S (successors_of T h E D) (tree T h) new_state h.statements P.due (memory_of P) links walked x)
        go (inr x) = inr x

    pub steady-of : (P : Point) → Somewhere P → Steady h room (memory_of P)
    steady-of P (inl w) = w.good.steady
    steady-of P (inr w) = w.1.steady

    pub last_of : (P : Point) → Somewhere P → LastZero E D h.objects P.cells
    last_of P (inl w) = w.good.last-zero
    last_of P (inr w) = w.1.last-zero

    -- ---- the invariant is kept

    abbrev Next : Memory → ℕ → Memory → Type 0
    Next m d n =
        (At h E D room L (tree T h) new_state d n ⊎ StandsAt h E D room h.statements (block_after E L (tree T h) new_state) d n)
        × Agree (assigned (tree T h)) (value m.values) (value n.values)

    fine-kept : (P Q : Point) → Invariant P → Fine (Next (memory_of P)) P Q → Invariant Q
    fine-kept P Q i (leads n m g) = record { has-step = λ e. let z : ◌≡◌ {A = ℕ} 0 1 = cc in omega arith; place = g.0 }
    fine-kept P Q i (stops c) = record { has-step = λ e. let z : ◌≡◌ {A = ℕ} 0 1 = cc in omega arith; place = i.place }

    -- A step of the routine keeps the invariant; a call is one, where its callee leaves good cells and a small result.
    pub frame-kept : (ret : Returned) → GoodReturn E D h.objects room ret → (P : Point) → Invariant P → P.due < h.statements
        → Invariant (frame_step E D ret (statement_at T h P.due) (successors_of T h E D P.due) P)
    frame-kept ret k P i l = go i.place
      where
        go : At h E D room L (tree T h) new_state P.due (memory_of P)
            ⊎ StandsAt h E D room h.statements (block_after E L (tree T h) new_state) P.due (memory_of P)
            → Invariant (frame_step E D ret (statement_at T h P.due) (successors_of T h E D P.due) P)
        go (inl x) = fine-kept P _ i (block-step T h E D room S (successors_of T h E D) L callees ret k (tree T h) new_state h.statements P links walked x)
        go (inr x) = absurd (omega (arith, l, x.0))

    -- The cells at a point are good.
    pub own-return : (P : Point) → Invariant P → GoodReturn E D h.objects room (record { cells = P.cells; result = 0 })
    own-return P i =
        let w = somewhere P i in
        let s = steady-of P w in
        record { cells = record { long = s.cells-long; small = s.cells-small; last-zero = last_of P w }; small = omega arith }

    -- A statement that is no call.
    pub step_kept : (P : Point) → Invariant P → P.due < h.statements → ((c : CallSite) → statement_at T h P.due ≡ Some (Call c) → ⊥)
        → Invariant (statement_step E D (statement_at T h P.due) (successors_of T h E D P.due) P)
    unfolding frame_step
    step_kept P i l n = go (statement_at T h P.due) refl (frame-kept _ (own-return P i) P i l)
      where
        go : (s : Option Statement) → statement_at T h P.due ≡ s
            → Invariant (frame_step E D (record { cells = P.cells; result = 0 }) s (successors_of T h E D P.due) P)
            → Invariant (statement_step E D s (successors_of T h E D P.due) P)
        go (Some (Plain s)) e k = k
        go (Some (If c x y)) e k = k
        go (Some (While c x)) e k = k
        go (Some (Bundle x)) e k = k
        go (Some (Call c)) e k = absurd (n c e)
        go None e k = k

    -- "a routine by itself is number 0": a call there is refused.
    pub no_call : callees ≡ [] → (P : Point) → Invariant P → (c : CallSite) → statement_at T h P.due ≡ Some (Call c) → ⊥
    no_call alone P i c e = go (somewhere P i)
      where
        go : Somewhere P → ⊥
        go (inl w) = omega (arith, (call-passed callees E _ c _ _ (w.calling c e).0).0, ap length alone)
        go (inr w) = omega (arith, w.0, read-within T h P.due (Call c) e)

    module _ (alone : callees ≡ []) where
      due-kept : (P : Point) → Invariant P → (b : Bool) → ltb P.due h.statements ≡ b → Invariant (step_if_due T h E D b P)
      due-kept P i false q = i
      due-kept P i true q = step_kept P i (ltb-true P.due h.statements q) (no_call alone P i)

      pub next-kept : (P : Point) (s : Status) → Invariant P → Invariant (next_point T h E D s P)
      unfolding next_point
      next-kept P going i = due-kept P i (ltb P.due h.statements) refl
      next-kept P (stopped n) i = i
      next-kept P stuck i = i

      -- A run that goes on from any point.
      pub point-kept : (t : ℕ) (P : Point) → Invariant P → Invariant (point_after T h E D t P)
      unfolding point_after
      point-kept zero P i = i
      point-kept (suc t) P i = next-kept (point_after T h E D t P) (point_after T h E D t P).status (point-kept t P i)

    start-return : (cs vs os : List ℕ) → Good h E D room new_state (declared_in E new_state) (record { cells = cs; values = vs; origins = os; rows = own_rows })
        → GoodReturn E D h.objects room (record { cells = cs; result = 0 })
    start-return cs vs os g =
        record { cells = record { long = g.steady.cells-long; small = g.steady.cells-small; last-zero = g.last-zero }; small = omega arith }

    pub start-kept : (cs vs os : List ℕ) → Good h E D room new_state (declared_in E new_state)
        (record { cells = cs; values = vs; origins = os; rows = own_rows })
        → Invariant (start T h E D cs vs os)
    unfolding start table_entry
    start-kept cs vs os g =
        record {
          has-step = λ e. let z : ◌≡◌ {A = ℕ} 0 1 = cc in omega arith;
          place = enter T h E D room S (successors_of T h E D) L callees (record { cells = cs; result = 0 }) (start-return cs vs os g) (tree T h) new_state
              h.statements _ (record { cells = cs; values = vs; origins = os; rows = own_rows }) links walked refl g;
        }

    due-of : (P : Point) → Somewhere P → P.due ≤ h.statements
    due-of P (inl w) = omega (arith, w.within)
    due-of P (inr w) = omega (arith, w.0)

    pub bounds-at : (W : State FactSet) (m : Memory) (p : ℕ) → is_pointer E p ≡ true → Good h E D room W (declared_in E W) m
        → bounds_true (in_force E m.rows) D m.values m.origins p ≡ true
    bounds-at W m p t g = true-test (in_force E m.rows) D h.objects S.pairs m p (S.declares.ends m.rows (rw g.rows g.named) p t)
        (declared-true T h E D room S W m p t g)

    bounds-of : (P : Point) → Somewhere P → in_bundle (tree T h) P.due ≡ false → (p : ℕ) → is_pointer E p ≡ true
        → bounds_true (in_force E P.rows) D P.values P.origins p ≡ true
    bounds-of P (inl w) e p t = bounds-at w.state (memory_of P) p t (w.declared e)
    bounds-of P (inr w) e p t = bounds-at (block_after E L (tree T h) new_state) (memory_of P) p t w.1

    -- The access of a statement that is due, where no check fails.
    access-right : (m : Memory) (origin a : ℕ) → Steady h room m → Inside D h.objects origin a → AccessRight D (length m.cells) a origin
    access-right m origin a s i =
        let placed = S.placed i.object i.exists in
        record {
          inside = inside-origin D h.objects origin a i;
          first = omega (arith, placed.first, i.above);
          last = omega (arith, placed.inside, i.below, s.cells-long);
        }

    simple-allowed : (s : Simple) (a : ℕ) (m : Memory) → Steady h room m → Named h m.rows → statement_at T h a ≡ Some (Plain s)
        → Ready (in_force E m.rows) D h.objects s m → failing (in_force E m.rows) m.values s ≡ none
        → AccessAllowed D (length m.cells) (simple_access E s m)
    unfolding failing
    simple-allowed (Literal x k) a m w n r y e = tt
    simple-allowed (AddConstant x q k) a m w n r y e = tt
    simple-allowed (Arithmetic x q z op) a m w n r y e = tt
    simple-allowed (Null p) a m w n r y e = tt
    simple-allowed (Address p o) a m w n r y e = tt
    simple-allowed (PointerOffset p q k) a m w n r y e = tt
    simple-allowed (PointerIndex p q i) a m w n r y e = tt
    simple-allowed (Load x p i k) a m w n r y e =
        let typed = read-typed T h a (Plain (Load x p i k)) r in
        access-right m _ _ w (access-inside (in_force E m.rows) D h.objects m p (S.declares.ends m.rows n p (S.declares.pointer p typed.pointer))
        (λ o l. (S.placed o l).first) _ _ e y)
    simple-allowed (Store p i k x) a m w n r y e =
        let typed = read-typed T h a (Plain (Store p i k x)) r in
        access-right m _ _ w (access-inside (in_force E m.rows) D h.objects m p (S.declares.ends m.rows n p (S.declares.pointer p typed.pointer))
        (λ o l. (S.placed o l).first) _ _ e y)
    simple-allowed (Check c) a m w n r y e = tt
    simple-allowed (Declare p i) a m w n r y e = tt

    -- The access of the statement that is due at a point, where no check fails.
    pub due-allowed : (P : Point) → Invariant P → (s : Simple) → statement_at T h P.due ≡ Some (Plain s) → failing (in_force E P.rows) P.values s ≡ none
        → AccessAllowed D (length P.cells) (simple_access E s (memory_of P))
    due-allowed P i s r e = go (somewhere P i)
      where
        go : Somewhere P → AccessAllowed D (length P.cells) (simple_access E s (memory_of P))
        go (inl w) = simple-allowed s P.due (memory_of P) w.good.steady (rw w.good.rows w.good.named) r (w.ready s r) e
        go (inr w) = absurd (omega (arith, w.0, read-within T h P.due (Plain s) r))

    from-allowed : (P : Point) (s : Status) → Invariant P → AccessAllowed D (length P.cells) (access_from T h E s P)
    unfolding access_from
    from-allowed P going i = due (ltb P.due h.statements)
      where
        checked : (s : Simple) → statement_at T h P.due ≡ Some (Plain s) → (c : Failing) → failing (in_force E P.rows) P.values s ≡ c
            → AccessAllowed D (length P.cells) (unless_failing c (simple_access E s (memory_of P)))
        checked s r (fails n) e = tt
        checked s r none e = due-allowed P i s r e

        reads : (r : Option Statement) → statement_at T h P.due ≡ r → AccessAllowed D (length P.cells) (statement_access E r (memory_of P))
        reads None r = tt
        reads (Some (Plain s)) r = checked s r (failing (in_force E P.rows) P.values s) refl
        reads (Some (If c x y)) r = tt
        reads (Some (While c x)) r = tt
        reads (Some (Bundle x)) r = tt
        reads (Some (Call x)) r = tt

        due : (b : Bool) → AccessAllowed D (length P.cells) (access_if b (statement_access E (statement_at T h P.due) (memory_of P)))
        due true = reads (statement_at T h P.due) refl
        due false = tt
    from-allowed P (stopped n) i = tt
    from-allowed P stuck i = tt

    -- ---- point 9

    listed_of : (P : Point) → Somewhere P → (c : Condition) (n : ℕ) → statement_at T h P.due ≡ Some (While c n)
        → EntriesTrue (entries_of L P.due) (value P.values)
    listed_of P (inl w) c n e = w.listed c n e
    listed_of P (inr w) c n e = absurd (omega (arith, w.0, read-within T h P.due (While c n) e))

    before_of : (P : Point) → Invariant P → P.due < h.statements → Before T h E D room L (state_before store E L (tree T h) new_state P.due) P.due
        (memory_of P)
    before_of P i l = go i.place
      where
        go : At h E D room L (tree T h) new_state P.due (memory_of P)
            ⊎ StandsAt h E D room h.statements (block_after E L (tree T h) new_state) P.due (memory_of P)
            → Before T h E D room L (state_before store E L (tree T h) new_state P.due) P.due (memory_of P)
        go (inl x) =
            let t = table-laid T h S.laid in
            before-due T h E D room L (tree T h) 0 new_state P.due (memory_of P) t.numbered t.reads x
        go (inr x) = absurd (omega (arith, x.0))

    index_below : (i : ℕ) → IsIndex T h i → i < 17
    index_below i (missing e) = omega arith
    index_below i (given g) = omega (arith, g.below, S.declares.few)

    -- An access that is shown safe fails no check.
    simple-safe : (s : Simple) (m : Memory) (f : FactSet) → SimpleTyped T h s → Steady h room m → Named h m.rows → Holds f (value m.values)
        → access_safe (in_force E m.rows) f s ≡ true → failing (in_force E m.rows) m.values s ≡ none
    unfolding bounds_rules.access_safe failing
    simple-safe (Literal x k) m f y w n g e = absurd (false≢true e)
    simple-safe (AddConstant x q k) m f y w n g e = absurd (false≢true e)
    simple-safe (Arithmetic x q z op) m f y w n g e = absurd (false≢true e)
    simple-safe (Null p) m f y w n g e = absurd (false≢true e)
    simple-safe (Address p o) m f y w n g e = absurd (false≢true e)
    simple-safe (PointerOffset p q k) m f y w n g e = absurd (false≢true e)
    simple-safe (PointerIndex p q i) m f y w n g e = absurd (false≢true e)
    simple-safe (Load x p i k) m f y w n g e =
        safe-load (in_force E m.rows) D h.objects m p (S.declares.ends m.rows n p (S.declares.pointer p y.pointer)) f i k g w.range
        (omega (arith, y.pointer.below, S.declares.few)) (index_below i y.index) e
    simple-safe (Store p i k x) m f y w n g e =
        safe-store (in_force E m.rows) D h.objects m p (S.declares.ends m.rows n p (S.declares.pointer p y.pointer)) f i k _ g w.range
        (omega (arith, y.pointer.below, S.declares.few)) (index_below i y.index) e
    simple-safe (Check c) m f y w n g e = absurd (false≢true e)
    simple-safe (Declare p r) m f y w n g e = absurd (false≢true e)

    named-of : (P : Point) → Somewhere P → Named h P.rows
    named-of P (inl w) = rw w.good.rows w.good.named
    named-of P (inr w) = rw w.1.rows w.1.named

    safe-of : (P : Point) → Invariant P → (s : Simple) → statement_at T h P.due ≡ Some (Plain s)
        → safe_in E (state_before store E L (tree T h) new_state P.due) s ≡ true → failing (in_force E P.rows) P.values s ≡ none
    safe-of P i s r e =
        let w = somewhere P i in
        let b = before_of P i (read-within T h P.due (Plain s) r) in
        let q = b.rows s r in
        simple-safe s (memory_of P) (state_before store E L (tree T h) new_state P.due).facts (read-typed T h P.due (Plain s) r) (steady-of P w)
        (named-of P w)
        (b.facts s r) (rw q e)

    pub invariant-sound : (P : Point) → Invariant P → Sound T h E D room L P
    invariant-sound P i =
        let w = somewhere P i in
        let s = steady-of P w in
        record {
          has-step = i.has-step;
          bounds = bounds-of P w;
          access-allowed = from-allowed P P.status i;
          last-zero = last_of P w;
          listed = listed_of P w;
          safe = safe-of P i;
          due-within = due-of P w;
          cells-long = s.cells-long;
          values-long = s.values-long;
          origins-long = s.origins-long;
          rows_long = s.rows_long;
          cells-small = s.cells-small;
          values-small = s.range.below;
        }

    -- A run that goes on from any point where the invariant holds.
    pub sound-from : callees ≡ [] → (t : ℕ) (P : Point) → Invariant P → Sound T h E D room L (point_after T h E D t P)
    sound-from alone t P i = invariant-sound (point_after T h E D t P) (point-kept alone t P i)

-- ---- the theorem

module _ (T : List ℤ) (h : Sections) (L : List ℤ) (formed : form_of T ≡ Ok h) (accepts : faults [] T L ≡ []) (D cs vs os : List ℕ)
    (begun : Begun h (environment_of T h) D cs vs os) where
  declares : Declares T h (environment_of T h)
  declares = environment-declares T h (well-formed T h formed)

  pub begun-setting : Setting T h (environment_of T h) D (length cs)
  begun-setting =
      let a = clear [] T h L formed accepts in
      record {
        laid = a.laid;
        declares = declares;
        pairs = begun.pairs;
        placed = begun.placed;
        apart = begun.apart;
        memory = begun.memory;
      }

  -- A routine by itself calls none.
  pub begun-walked : block_faults (environment_of T h) L [] (tree T h) new_state ≡ []
  begun-walked = (clear [] T h L formed accepts).walked

  -- The invariant holds at the start.
  pub begun-invariant : Invariant T h (environment_of T h) D (length cs) L (start T h (environment_of T h) D cs vs os)
  begun-invariant = start-kept T h (environment_of T h) D (length cs) L begun-setting [] begun-walked cs vs os
      (begun-good T h (environment_of T h) D cs vs os declares begun)

  -- Of a table that the checker accepts and a run that is begun, the claim holds at every point: after any number t of steps.
  pub sound : (t : ℕ) → Sound T h (environment_of T h) D (length cs) L (point_after T h (environment_of T h) D t (start T h (environment_of T h) D cs vs os))
  sound t = sound-from T h (environment_of T h) D (length cs) L begun-setting [] begun-walked refl t (start T h (environment_of T h) D cs vs os) begun-invariant

  abbrev E : Environment
  E = environment_of T h

  abbrev point : ℕ → Point
  point t = point_after T h E D t (start T h E D cs vs os)

  -- The facts before a statement that is due do not contradict, by the store.
  due-consistent : (t : ℕ) → (point t).due < h.statements → contradictory (state_before store E L (tree T h) new_state (point t).due).facts ≡ false
  due-consistent t l =
      (before_of T h E D (length cs) L begun-setting [] begun-walked (point t)
      (point-kept T h E D (length cs) L begun-setting [] begun-walked refl t (start T h E D cs vs os) begun-invariant) l).consistent

  abbrev vars : Variables
  vars = variables T h (well-formed T h formed).limits

  -- A statement whose facts contradict is never due, by the paper's chains. (Point 11 walks it like any other, and no run comes to it.)
  pub never-due : (d : Decider) → DecidesTable T d → (t : ℕ) → (point t).due < h.statements
      → Contradiction (known vars (state_before (by_chains d) E L (tree T h) (walk_rules.new_state (by_chains d)) (point t).due).facts) → ⊥
  never-due d decides t l c =
      let w = (well-formed T h formed).limits in
      let r = before-represented T h w L (entries-right T h w L (clear [] T h L formed accepts).listed) d (decides h w formed) (tree T h) (point t).due
      (table-laid T h begun-setting.laid).reads
      (new-represented vars d) in
      let m = (contradicts-exactly vars (state_before (by_chains d) E L (tree T h) (walk_rules.new_state (by_chains d)) (point t).due).facts
      r.represents.legal).1 c in
      false≢true (sym (due-consistent t l) ∙ (ap (λ (f : FactSet). f.contradiction) (sym r.represents.same) ∙ m))
