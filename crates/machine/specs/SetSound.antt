-- Soundness of a set: at every state of a begun run the routine that runs is sound at its point, and the declared bounds of all its callers are true. L is the
-- list of loop facts of a routine by itself; a set of several is checked with the empty one.
use Rattle.statements.specs.declared.Statement.{Statement}
use Prim.Native.Nat.{ℕ, zero, suc, ◌+◌, ◌-◌, ◌<◌}
use Rattle.std.proofs.Math.Path.{◌≡◌, refl, sym}
use Rattle.std.proofs.Common.{ap, ◌∙◌, inl, inr, arith, ltb-true}
use Rattle.std.specs.Prelude.{Bool, ◌&&◌, cond, ℤ, length, get_or, None, Option, Some}
use Rattle.std.proofs.Math.Bool.{true, false}
use mathlib.Core.List.{List, [], ◌∷◌}
use Rattle.std.proofs.Math.Dec.{ltb}
use Rattle.words.specs.declared.sections.Sections.{Sections}
use Rattle.statements.specs.Statements.{statement_at}
use Rattle.statements.specs.StatementLaws.{read-typed, read-within}
use Rattle.statements.specs.declared.CallSite.{CallSite}
use Rattle.statements.specs.declared.Statement.TheVariants.{Plain, If, While, Bundle, Call}
use Rattle.blocks.specs.Tree.{tree}
use Rattle.listed.specs.ListForm.{list_faults}
use Rattle.rules.specs.BoundsRules.{is_pointer, in_force}
use Rattle.rules.specs.Calls.{Routine, routine_at, arguments_fit}
use Rattle.rules.specs.CallLaws.{AllFormed, call-passed}
use Rattle.rules.specs.Sets.{before}
use Rattle.rules.proofs.SetLaws.{before-short, before_at}
use Rattle.rules.specs.Stored.{store, new_state, declared_in, block_faults}
use Rattle.rules.specs.declared.Environment.{Environment}
use Rattle.machine.specs.Machine.{bounds_true, Status, going, stopped, stuck, Point, memory_of, successors_of, step_if_due, next_point, start}
use Rattle.machine.specs.Soundness.{Sound}
use Rattle.machine.specs.Good.{Setting, Good}
use Rattle.machine.specs.SetMachine.{Returned, Frame, Stack, stack, is_going, called_memory, table_of, sections_of, environment_of, result_of, has_ended}
use Rattle.machine.specs.SetMachine.{resumed, settled, waiting, begun, own_step, stack_step, next_if, next_stack, stack_after}
use Rattle.machine.specs.CallSound.{GoodReturn, called-good}
use Rattle.machine.specs.BlockSound.{frame_step}
use Rattle.machine.specs.RunSound.{Invariant, Somewhere, somewhere, steady-of, last_of}
use Rattle.machine.specs.RunSound.{bounds-at, frame-kept, step_kept as frame-step-kept, start-kept, invariant-sound}

-- The invariant does not speak of the steps.
with-steps : (T : List ℤ) (h : Sections) (E : Environment) (D : List ℕ) (room s : ℕ) (L : List ℤ) (P : Point) → Invariant T h E D room L P
    → Invariant T h E D room L (record {
      cells = P.cells;
      values = P.values;
      origins = P.origins;
      rows = P.rows;
      due = P.due;
      steps = s;
      status = going;
    })
with-steps T h E D room s L P i = record { has-step = λ e. let z : ◌≡◌ {A = ℕ} 0 1 = cc in omega arith; place = i.place }

-- A statement that is no call, by the status.
pub next-kept : (T : List ℤ) (h : Sections) (E : Environment) (D : List ℕ) (room : ℕ) → Setting T h E D room → (L : List ℤ) (callees : List Routine)
    → block_faults E L callees (tree T h) new_state ≡ [] → (P : Point) → Invariant T h E D room L P
    → ((c : CallSite) → statement_at T h P.due ≡ Some (Call c) → ⊥) → (s : Status) → Invariant T h E D room L (next_point T h E D s P)
unfolding next_point
next-kept T h E D room S L callees q₀ P i n going = go (ltb P.due h.statements) refl
  where
    go : (b : Bool) → ltb P.due h.statements ≡ b → Invariant T h E D room L (step_if_due T h E D b P)
    go true q = frame-step-kept T h E D room L S callees q₀ P i (ltb-true _ _ q) n
    go false q = i
next-kept T h E D room S L callees q₀ P i n (stopped k) = i
next-kept T h E D room S L callees q₀ P i n stuck = i

module _ (rs : List Routine) (D : List ℕ) (room : ℕ) (L : List ℤ) where
  abbrev T : ℕ → List ℤ
  T n = table_of rs D n

  abbrev h : ℕ → Sections
  h n = sections_of rs D n

  abbrev E : ℕ → Environment
  E n = environment_of rs D n

  -- What stays the same in a run of an accepted set: each routine is accepted, where it may call those before it; and all have the same objects.
  pub record SetSetting : Type 0 where
    pub setting : (n : ℕ) → n < length rs → Setting (T n) (h n) (E n) D room
    pub walked : (n : ℕ) → n < length rs → block_faults (E n) L (before n rs) (tree (T n) (h n)) new_state ≡ []
    pub listed : (n : ℕ) → n < length rs → list_faults (T n) (h n) L ≡ []
    pub formed : AllFormed rs
    pub objects : (n m : ℕ) → n < length rs → m < length rs → (h n).objects ≡ (h m).objects
    pub terminated : (n m : ℕ) → n < length rs → m < length rs → (E n).terminated ≡ (E m).terminated

  -- A caller's point as it was when it called.
  abbrev called_from : Frame → List ℕ → ℕ → Point
  called_from F cs d = record { cells = cs; values = F.values; origins = F.origins; rows = F.rows; due = d; steps = 0; status = going }

  -- A caller stands at a call whose result is not yet set.
  pub record Waits (F : Frame) : Type 0 where
    pub known : F.routine < length rs
    pub at : ℕ
    pub call : CallSite
    pub cells : List ℕ
    pub invariant : Invariant (T F.routine) (h F.routine) (E F.routine) D room L (called_from F cells at)
    pub read : statement_at (T F.routine) (h F.routine) at ≡ Some (Call call)
    pub result : F.result ≡ call.result
    pub next : F.due ≡ (successors_of (T F.routine) (h F.routine) (E F.routine) D at).next

  -- Each caller waits, and its number is above that of its callee n.
  abbrev pub AllWait : ℕ → List Frame → Type 0
  AllWait n [] = Unit {0}
  AllWait n (F ∷ fs) = (n < F.routine) × Waits F × AllWait F.routine fs

  pub record StackInvariant (K : Stack) : Type 0 where
    pub known : K.routine < length rs
    pub running : Invariant (T K.routine) (h K.routine) (E K.routine) D room L K.point
    pub waits : AllWait K.routine K.callers

  module _ (S : SetSetting) where
    -- ---- a callee ends

    -- What a routine leaves is good for each other routine of the set.
    return-good : (n m : ℕ) (l : n < length rs) → m < length rs → (P : Point) → Invariant (T n) (h n) (E n) D room L P
        → GoodReturn (E m) D (h m).objects room (record { cells = P.cells; result = result_of rs D n P })
    return-good n m l k P i =
        let w = somewhere (T n) (h n) (E n) D room L (S.setting n l) (before n rs) (S.walked n l) P i in
        let s = steady-of (T n) (h n) (E n) D room L (S.setting n l) (before n rs) (S.walked n l) P w in
        let o : (h m).objects ≡ (h n).objects = S.objects m n k l in
        let t : (E m).terminated ≡ (E n).terminated = S.terminated m n k l in
        record {
          cells =
              record {
                long = s.cells-long;
                small = s.cells-small;
                last-zero = λ q b e. last_of (T n) (h n) (E n) D room L (S.setting n l) (before n rs) (S.walked n l) P w q (omega (arith, o))
                    (ap (λ (x : List Bool). get_or x q false) (sym t) ∙ e);
              };
          small = s.range.below _;
        }

    pub resume-kept : (n : ℕ) → n < length rs → (F : Frame) → Waits F → (P : Point) → Invariant (T n) (h n) (E n) D room L P
        → Invariant (T F.routine) (h F.routine) (E F.routine) D room L (resumed rs D F P (result_of rs D n P))
    unfolding frame_step
    resume-kept n l F w P i =
        let m = F.routine in
        let ret : Returned = record { cells = P.cells; result = result_of rs D n P } in
        let kept = frame-kept (T m) (h m) (E m) D room L (S.setting m w.known) (before m rs) (S.walked m w.known) ret
        (return-good n m l w.known P i) (called_from F w.cells w.at)
        w.invariant (read-within (T m) (h m) w.at (Call w.call) w.read) in
        let e = w.read in
        let done = rw e at kept in
        rw (w.result, w.next) (with-steps (T m) (h m) (E m) D room P.steps L _ done)

    settled-kept : (fs : List Frame) (n : ℕ) (P : Point) → n < length rs → Invariant (T n) (h n) (E n) D room L P → AllWait n fs
        → StackInvariant (settled rs D fs n P)
    unfolding settled
    settled-kept [] n P l i w = record { known = l; running = i; waits = tt }
    settled-kept (F ∷ fs) n P l i w = go (has_ended rs D n P)
        (settled-kept fs F.routine (resumed rs D F P (result_of rs D n P)) w.1.known (resume-kept n l F w.1 P i) w.2)
      where
        go : (b : Bool) → StackInvariant (settled rs D fs F.routine (resumed rs D F P (result_of rs D n P)))
            → StackInvariant (cond b (settled rs D fs F.routine (resumed rs D F P (result_of rs D n P))) (stack (F ∷ fs) n P))
        go true k = k
        go false k = record { known = l; running = i; waits = w }

    -- ---- a callee begins

    begun_kept : (c : CallSite) (l : c.callee < length rs) (P : Point)
        → Good (h c.callee) (E c.callee) D room new_state (declared_in (E c.callee) new_state) (called_memory (routine_at rs c.callee) c (memory_of P))
        → Invariant (T c.callee) (h c.callee) (E c.callee) D room L (begun rs D c P)
    unfolding start
    begun_kept c l P g =
        let k = c.callee in
        let m = called_memory (routine_at rs k) c (memory_of P) in
        with-steps (T k) (h k) (E k) D room (P.steps + 1) L _ (start-kept (T k) (h k) (E k) D room L (S.setting k l) (before k rs) (S.walked k l) m.cells
        m.values m.origins g)

    -- ---- a step

    module _ (K : Stack) (i : StackInvariant K) where
      abbrev n : ℕ
      n = K.routine

      abbrev P : Point
      P = K.point

      abbrev SK : Setting (T n) (h n) (E n) D room
      SK = S.setting n i.known

      own-kept : ((c : CallSite) → statement_at (T n) (h n) P.due ≡ Some (Call c) → ⊥) → StackInvariant (own_step rs D K)
      own-kept other = settled-kept K.callers n _ i.known (next-kept (T n) (h n) (E n) D room SK L (before n rs) (S.walked n i.known) P
          i.running other P.status) i.waits

      -- The caller as it waits.
      pub caller-waits : (c : CallSite) → statement_at (T n) (h n) P.due ≡ Some (Call c) → Waits (waiting rs D K c)
      caller-waits c e =
          record {
            known = i.known;
            at = P.due;
            call = c;
            cells = P.cells;
            invariant = with-steps (T n) (h n) (E n) D room 0 L P i.running;
            read = e;
            result = refl;
            next = refl;
          }

      -- The callee as it begins.
      pub record Calls (c : CallSite) : Type 0 where
        pub below : c.callee < n
        pub invariant : Invariant (T c.callee) (h c.callee) (E c.callee) D room L (begun rs D c P)

      pub calls : (c : CallSite) → statement_at (T n) (h n) P.due ≡ Some (Call c) → Calls c
      calls c e = go (somewhere (T n) (h n) (E n) D room L SK (before n rs) (S.walked n i.known) P i.running)
        where
          go : Somewhere (T n) (h n) (E n) D room L SK (before n rs) (S.walked n i.known) P → Calls c
          go (inl w) =
              let q = w.calling c e in
              let p = call-passed (before n rs) (E n) P.due c w.state.facts (declared_in (E n) w.state) q.0 in
              let l : c.callee < length (before n rs) = p.0 in
              let k : c.callee < n = omega (arith, l, before-short n rs) in
              let r : routine_at (before n rs) c.callee ≡ routine_at rs c.callee = before_at n rs c.callee l in
              let m : c.callee < length rs = omega (arith, k, i.known) in
              let fit : arguments_fit store (E n) w.state.facts (declared_in (E n) w.state) (routine_at rs c.callee) c ≡ true = rw r at p.1 in
              record {
                below = k;
                invariant = begun_kept c m P (called-good (T n) (h n) (E n) D room SK (routine_at rs c.callee) (S.formed c.callee m)
                    (S.setting c.callee m).declares (S.objects c.callee n m i.known) (S.terminated c.callee n m i.known)
                    c (read-typed (T n) (h n) P.due (Call c) e) w.state (memory_of P) q.1 fit);
              }
          go (inr w) = absurd (omega (arith, w.0, read-within (T n) (h n) P.due (Call c) e))

      step_kept : (s : Option Statement) → statement_at (T n) (h n) P.due ≡ s → StackInvariant (stack_step rs D s K)
      unfolding stack_step
      step_kept (Some (Call c)) e =
          let k = calls c e in
          settled-kept (waiting rs D K c ∷ K.callers) c.callee (begun rs D c P) (omega (arith, k.below, i.known)) k.invariant
          (k.below, caller-waits c e, i.waits)
      step_kept (Some (Plain s)) e = own-kept (λ k u. let q : Some (Plain s) ≡ Some (Call k) = sym e ∙ u in let o : ◌≡◌ {A = ℕ} 0 1 = cc in omega arith)
      step_kept (Some (If c x y)) e = own-kept (λ k u. let q : Some (If c x y) ≡ Some (Call k) = sym e ∙ u in let o : ◌≡◌ {A = ℕ} 0 1 = cc in omega arith)
      step_kept (Some (While c x)) e = own-kept (λ k u. let q : Some (While c x) ≡ Some (Call k) = sym e ∙ u in let o : ◌≡◌ {A = ℕ} 0 1 = cc in omega arith)
      step_kept (Some (Bundle x)) e = own-kept (λ k u. let q : Some (Bundle x) ≡ Some (Call k) = sym e ∙ u in let o : ◌≡◌ {A = ℕ} 0 1 = cc in omega arith)
      step_kept None e = own-kept (λ k u. let q : None ≡ Some (Call k) = sym e ∙ u in let o : ◌≡◌ {A = ℕ} 0 1 = cc in omega arith)

      next-stack-kept : StackInvariant (next_stack rs D K)
      unfolding next_stack
      next-stack-kept = go (is_going P.status && ltb P.due (h n).statements)
        where
          go : (b : Bool) → StackInvariant (next_if rs D b K)
          go true = step_kept (statement_at (T n) (h n) P.due) refl
          go false = i

    pub stack-kept : (t : ℕ) (K : Stack) → StackInvariant K → StackInvariant (stack_after rs D t K)
    unfolding stack_after
    stack-kept zero K i = i
    stack-kept (suc t) K i = next-stack-kept (stack_after rs D t K) (stack-kept t K i)

    -- ---- what it says

    -- The stack holds at most as many frames as there are routines above the one that runs: with 8 routines there are at most 8 frames.
    pub few-frames : (n : ℕ) (fs : List Frame) → n < length rs → AllWait n fs → n + length fs < length rs
    few-frames n [] l w = omega arith
    few-frames n (F ∷ fs) l w = let k = few-frames F.routine fs w.1.known w.2 in omega (arith, k, w.0)

    -- The declared bounds of a caller are true.
    abbrev pub BoundsTrue : Frame → Type 0
    BoundsTrue F = (p : ℕ) → is_pointer (E F.routine) p ≡ true
        → bounds_true (in_force (E F.routine) F.rows) D F.values F.origins p ≡ true

    abbrev pub AllTrue : List Frame → Type 0
    AllTrue [] = Unit {0}
    AllTrue (F ∷ fs) = BoundsTrue F × AllTrue fs

    caller-true : (F : Frame) → Waits F → BoundsTrue F
    caller-true F w p t = go (somewhere (T m) (h m) (E m) D room L SM (before F.routine rs) (S.walked F.routine w.known)
        (called_from F w.cells w.at) w.invariant)
      where
        m : ℕ
        m = F.routine

        SM : Setting (T F.routine) (h F.routine) (E F.routine) D room
        SM = S.setting F.routine w.known

        go : Somewhere (T F.routine) (h F.routine) (E F.routine) D room L SM (before F.routine rs) (S.walked F.routine w.known)
            (called_from F w.cells w.at)
            → bounds_true (in_force (E F.routine) F.rows) D F.values F.origins p ≡ true
        go (inl x) = bounds-at (T F.routine) (h F.routine) (E F.routine) D room L SM (before F.routine rs) (S.walked F.routine w.known)
            x.state (memory_of (called_from F w.cells w.at)) p t
            (x.calling w.call w.read).1
        go (inr x) = absurd (omega (arith, x.0, read-within (T F.routine) (h F.routine) w.at (Call w.call) w.read))

    callers-true : (n : ℕ) (fs : List Frame) → AllWait n fs → AllTrue fs
    callers-true n [] w = tt
    callers-true n (F ∷ fs) w = (caller-true F w.1, callers-true F.routine fs w.2)

    -- THE CLAIM for a state of a run of a set.
    pub record StackSound (K : Stack) : Type 0 where
      pub known : K.routine < length rs
      pub frames : K.routine + length K.callers < length rs
      pub running : Sound (T K.routine) (h K.routine) (E K.routine) D room L K.point
      pub callers : AllTrue K.callers

    pub stack-sound : (K : Stack) → StackInvariant K → StackSound K
    stack-sound K i =
        record {
          known = i.known;
          frames = few-frames K.routine K.callers i.known i.waits;
          running = invariant-sound (T K.routine) (h K.routine) (E K.routine) D room L (S.setting K.routine i.known) (before K.routine rs)
              (S.walked K.routine i.known) K.point i.running;
          callers = callers-true K.routine K.callers i.waits;
        }
