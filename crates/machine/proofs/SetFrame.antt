-- The frame law of a set: a step reads and writes only cells of a set R of objects, where R holds every origin and every object that any routine takes the
-- address of. Point 14: "An object that any routine of the set takes the address of counts as reachable."
use Rattle.statements.specs.declared.Statement.{Statement}
use Prim.Native.Nat.{ℕ, zero, suc}
use Rattle.std.specs.Prelude.{◌≡◌, Bool, ◌&&◌, length, get_or, None, Option, Some}
use Rattle.std.proofs.Math.Path.{refl}
use Rattle.std.proofs.Common.{sym, ap, subst, ◌∙◌, inr, arith, ltb-true, ltb-false}
use Rattle.std.proofs.Math.Logic.{inl}
use Rattle.std.proofs.Math.Bool.{true, false, cond}
use mathlib.Core.List.{List, [], ◌∷◌}
use Rattle.std.proofs.Math.Dec.{ltb}
use Rattle.std.proofs.Math.ListN.{get_or-eq_default}
use Rattle.arrays.specs.Tabulate.{tabulate}
use Rattle.arrays.specs.TabulateLaws.{get_d_tabulate, length-tabulate}
use Rattle.statements.specs.Statements.{statement_at}
use Rattle.statements.specs.declared.CallSite.{CallSite}
use Rattle.statements.specs.declared.Statement.TheVariants.{Plain, If, While, Bundle, Call}
use Rattle.rules.specs.Calls.{Routine, argument}
use Rattle.machine.specs.Machine.{Point, start}
use Rattle.machine.specs.Points.{Reachable}
use Rattle.machine.specs.Frame.{Elsewhere, Names, Origins, SameCells, with_cells, Alike}
use Rattle.machine.specs.FrameLaws.{next-framed, next-alike, alike-with}
use Rattle.machine.specs.SetMachine.{Frame, Stack, stack, is_going, table_of, sections_of, environment_of, result_of, has_ended, resumed, settled, waiting}
use Rattle.machine.specs.SetMachine.{begun, own_step, stack_step, next_if, next_stack, start_stack, stack_after}

-- The state K with the cells ds.
abbrev pub stack_with : Stack → List ℕ → Stack
stack_with K ds = stack K.callers K.routine (with_cells K.point ds)

module _ (D : List ℕ) (R : ℕ → Type 0) where
  -- Every origin is one of R, of the callers too.
  abbrev pub CallersOrigins : List Frame → Type 0
  CallersOrigins [] = Unit {0}
  CallersOrigins (F ∷ fs) = Origins R F.origins × CallersOrigins fs

  pub record StackOrigins (K : Stack) : Type 0 where
    pub running : Origins R K.point.origins
    pub callers : CallersOrigins K.callers

  -- What was done from K to L left the length of the memory and the cells elsewhere as they were, and all origins are of R.
  pub record StackFramed (K L : Stack) : Type 0 where
    pub origins : StackOrigins L
    pub long : length L.point.cells ≡ length K.point.cells
    pub elsewhere : (i : ℕ) → Elsewhere D R i → get_or L.point.cells i 0 ≡ get_or K.point.cells i 0

  -- Two states that differ only in cells elsewhere.
  pub record StackAlike (K L : Stack) : Type 0 where
    pub rest : stack_with K L.point.cells ≡ L
    pub memory : SameCells D R K.point.cells L.point.cells

-- ---- tables that end

module _ (rs : List Routine) (D : List ℕ) where
  pub settled-cells : (fs : List Frame) (n : ℕ) (P : Point) → (settled rs D fs n P).point.cells ≡ P.cells
  unfolding settled
  settled-cells [] n P = refl
  settled-cells (F ∷ fs) n P = go (has_ended rs D n P) (settled-cells fs F.routine (resumed rs D F P (result_of rs D n P)))
    where
      go : (b : Bool) → (settled rs D fs F.routine (resumed rs D F P (result_of rs D n P))).point.cells ≡ P.cells
          → (cond b (settled rs D fs F.routine (resumed rs D F P (result_of rs D n P))) (stack (F ∷ fs) n P)).point.cells ≡ P.cells
      go true e = e
      go false e = refl

  settled-origins : (R : ℕ → Type 0) (fs : List Frame) (n : ℕ) (P : Point) → Origins R P.origins → CallersOrigins D R fs
      → StackOrigins D R (settled rs D fs n P)
  unfolding settled
  settled-origins R [] n P o c = record { running = o; callers = tt }
  settled-origins R (F ∷ fs) n P o c = go (has_ended rs D n P) (settled-origins R fs F.routine (resumed rs D F P (result_of rs D n P)) c.0 c.1)
    where
      go : (b : Bool) → StackOrigins D R (settled rs D fs F.routine (resumed rs D F P (result_of rs D n P)))
          → StackOrigins D R (cond b (settled rs D fs F.routine (resumed rs D F P (result_of rs D n P))) (stack (F ∷ fs) n P))
      go true e = e
      go false e = record { running = o; callers = c }

  settled-with : (fs : List Frame) (n : ℕ) (P : Point) (ds : List ℕ) → settled rs D fs n (with_cells P ds) ≡ stack_with (settled rs D fs n P) ds
  unfolding settled
  settled-with [] n P ds = refl
  settled-with (F ∷ fs) n P ds = go (has_ended rs D n P) (settled-with fs F.routine (resumed rs D F P (result_of rs D n P)) ds)
    where
      go : (b : Bool) → settled rs D fs F.routine (with_cells (resumed rs D F P (result_of rs D n P)) ds)
          ≡ stack_with (settled rs D fs F.routine (resumed rs D F P (result_of rs D n P))) ds
          → cond b (settled rs D fs F.routine (with_cells (resumed rs D F P (result_of rs D n P)) ds)) (stack (F ∷ fs) n (with_cells P ds))
          ≡ stack_with (cond b (settled rs D fs F.routine (resumed rs D F P (result_of rs D n P))) (stack (F ∷ fs) n P)) ds
      go true e = e
      go false e = refl

  module _ (R : ℕ → Type 0) (names : (n : ℕ) → Names (table_of rs D n) (sections_of rs D n) R) where
    -- ---- a step touches only cells of R's objects

    made-origins : (c : CallSite) (k : ℕ) (os : List ℕ) → Origins R os → Origins R (tabulate k (λ j. get_or os (argument c j) 0))
    made-origins c k os r v o e = go (ltb v k) refl
      where
        go : (b : Bool) → ltb v k ≡ b → R o
        go true q = r (argument c v) o (sym (get_d_tabulate k (λ j. get_or os (argument c j) 0) v 0 (ltb-true v k q)) ∙ e)
        go false q =
            let z : get_or (tabulate k (λ j. get_or os (argument c j) 0)) v 0 ≡ 0 = get_or-eq_default (tabulate k (λ j. get_or os (argument c j) 0)) 0 {n = v}
            (omega (arith, length-tabulate k (λ j. get_or os (argument c j) 0), ltb-false v k q)) in
            absurd (omega (arith, z, e))

    settled-framed : (K : Stack) (fs : List Frame) (n : ℕ) (P : Point) → Origins R P.origins → CallersOrigins D R fs
        → length P.cells ≡ length K.point.cells
        → ((i : ℕ) → Elsewhere D R i → get_or P.cells i 0 ≡ get_or K.point.cells i 0)
        → StackFramed D R K (settled rs D fs n P)
    settled-framed K fs n P o c l e =
        record {
          origins = settled-origins R fs n P o c;
          long = ap length (settled-cells fs n P) ∙ l;
          elsewhere = λ i x. ap (λ (cs : List ℕ). get_or cs i 0) (settled-cells fs n P) ∙ e i x;
        }

    own-framed : (K : Stack) → StackOrigins D R K → StackFramed D R K (own_step rs D K)
    own-framed K o =
        let n = K.routine in
        let f = next-framed (table_of rs D n) (sections_of rs D n) (environment_of rs D n) D R (names n) K.point.status K.point o.running in
        settled-framed K K.callers n _ f.origins o.callers f.long f.elsewhere

    step-framed : (K : Stack) → StackOrigins D R K → (s : Option Statement) → StackFramed D R K (stack_step rs D s K)
    unfolding stack_step
    step-framed K o (Some (Call c)) =
        settled-framed K (waiting rs D K c ∷ K.callers) c.callee (begun rs D c K.point) (made-origins c _ K.point.origins o.running)
        (o.running, o.callers) refl (λ i e. refl)
    step-framed K o (Some (Plain s)) = own-framed K o
    step-framed K o (Some (If c x y)) = own-framed K o
    step-framed K o (Some (While c x)) = own-framed K o
    step-framed K o (Some (Bundle x)) = own-framed K o
    step-framed K o None = own-framed K o

    pub next-stack-framed : (K : Stack) → StackOrigins D R K → StackFramed D R K (next_stack rs D K)
    unfolding next_stack
    next-stack-framed K o = go (is_going K.point.status && ltb K.point.due (sections_of rs D K.routine).statements)
      where
        go : (b : Bool) → StackFramed D R K (next_if rs D b K)
        go true = step-framed K o (statement_at (table_of rs D K.routine) (sections_of rs D K.routine) K.point.due)
        go false = record { origins = o; long = refl; elsewhere = λ i e. refl }

    pub run-stack-framed : (t : ℕ) (K : Stack) → StackOrigins D R K → StackFramed D R K (stack_after rs D t K)
    unfolding stack_after
    run-stack-framed zero K o = record { origins = o; long = refl; elsewhere = λ i e. refl }
    run-stack-framed (suc t) K o =
        let f = run-stack-framed t K o in
        let g = next-stack-framed (stack_after rs D t K) f.origins in
        record { origins = g.origins; long = g.long ∙ f.long; elsewhere = λ i e. g.elsewhere i e ∙ f.elsewhere i e }

    -- ---- a step reads only cells of R's objects

    alike-settled : (fs : List Frame) (n : ℕ) (P Q : Point) → Alike D R P Q → StackAlike D R (settled rs D fs n P) (settled rs D fs n Q)
    alike-settled fs n P Q a =
        let e : settled rs D fs n Q ≡ stack_with (settled rs D fs n P) Q.cells =
        ap (settled rs D fs n) (sym a.rest) ∙ settled-with fs n P Q.cells in
        let c : (settled rs D fs n Q).point.cells ≡ Q.cells = settled-cells fs n Q in
        let d : (settled rs D fs n P).point.cells ≡ P.cells = settled-cells fs n P in
        record { rest = ap (stack_with (settled rs D fs n P)) c ∙ sym e; memory = rw (c, d) a.memory }

    own-alike : (K : Stack) (ds : List ℕ) → StackOrigins D R K → SameCells D R K.point.cells ds
        → StackAlike D R (own_step rs D K) (own_step rs D (stack_with K ds))
    own-alike K ds o s =
        let n = K.routine in
        alike-settled K.callers n _ _ (next-alike (table_of rs D n) (sections_of rs D n) (environment_of rs D n) D R (names n) K.point
        (with_cells K.point ds) o.running (alike-with D R K.point ds s))

    step-alike : (K : Stack) (ds : List ℕ) → StackOrigins D R K → SameCells D R K.point.cells ds → (s : Option Statement)
        → StackAlike D R (stack_step rs D s K) (stack_step rs D s (stack_with K ds))
    unfolding stack_step
    step-alike K ds o s (Some (Call c)) =
        alike-settled (waiting rs D K c ∷ K.callers) c.callee (begun rs D c K.point) (begun rs D c (with_cells K.point ds))
        (record { rest = refl; memory = s })
    step-alike K ds o s (Some (Plain x)) = own-alike K ds o s
    step-alike K ds o s (Some (If c x y)) = own-alike K ds o s
    step-alike K ds o s (Some (While c x)) = own-alike K ds o s
    step-alike K ds o s (Some (Bundle x)) = own-alike K ds o s
    step-alike K ds o s None = own-alike K ds o s

    with-next : (K : Stack) (ds : List ℕ) → StackOrigins D R K → SameCells D R K.point.cells ds
        → StackAlike D R (next_stack rs D K) (next_stack rs D (stack_with K ds))
    unfolding next_stack
    with-next K ds o s = go (is_going K.point.status && ltb K.point.due (sections_of rs D K.routine).statements)
      where
        go : (b : Bool) → StackAlike D R (next_if rs D b K) (next_if rs D b (stack_with K ds))
        go true = step-alike K ds o s (statement_at (table_of rs D K.routine) (sections_of rs D K.routine) K.point.due)
        go false = record { rest = refl; memory = s }

    pub next-stack-alike : (K L : Stack) → StackOrigins D R K → StackAlike D R K L → StackAlike D R (next_stack rs D K) (next_stack rs D L)
    next-stack-alike K L o a =
        subst (λ (X : Stack). StackAlike D R (next_stack rs D K) (next_stack rs D X)) a.rest (with-next K L.point.cells o a.memory)

    pub run-stack-alike : (t : ℕ) (K L : Stack) → StackOrigins D R K → StackAlike D R K L → StackAlike D R (stack_after rs D t K) (stack_after rs D t L)
    unfolding stack_after
    run-stack-alike zero K L o a = a
    run-stack-alike (suc t) K L o a =
        next-stack-alike (stack_after rs D t K) (stack_after rs D t L) (run-stack-framed t K o).origins (run-stack-alike t K L o a)

-- ---- the objects that a set can reach

module _ (rs : List Routine) (D vs os : List ℕ) where
  abbrev Reach : ℕ → Type 0
  Reach = Reachable rs os

  names-reach : (n : ℕ) → Names (table_of rs D n) (sections_of rs D n) Reach
  names-reach n a p o e = inr (n, a, p, e)

  start-origins : (cs : List ℕ) → StackOrigins D Reach (start_stack rs D cs vs os)
  unfolding start_stack start
  start-origins cs = record { running = λ v o e. inl (v, e); callers = tt }

  start-alike : (cs ds : List ℕ) → SameCells D Reach cs ds → StackAlike D Reach (start_stack rs D cs vs os) (start_stack rs D ds vs os)
  unfolding start_stack start
  start-alike cs ds s = record { rest = refl; memory = s }

  start-cells : (cs : List ℕ) → (start_stack rs D cs vs os).point.cells ≡ cs
  unfolding start_stack start
  start-cells cs = refl

  -- Point 12 of a set: two runs whose memories differ only out of reach are alike at every state,
  pub two-alike : (t : ℕ) (cs ds : List ℕ) → SameCells D Reach cs ds
      → StackAlike D Reach (stack_after rs D t (start_stack rs D cs vs os)) (stack_after rs D t (start_stack rs D ds vs os))
  two-alike t cs ds s = run-stack-alike rs D Reach names-reach t _ _ (start-origins cs) (start-alike cs ds s)

  -- and leave the other cells untouched.
  pub others-untouched : (t : ℕ) (cs : List ℕ) (i : ℕ) → Elsewhere D Reach i
      → get_or (stack_after rs D t (start_stack rs D cs vs os)).point.cells i 0 ≡ get_or cs i 0
  others-untouched t cs i e =
      (run-stack-framed rs D Reach names-reach t _ (start-origins cs)).elsewhere i e ∙ ap (λ (l : List ℕ). get_or l i 0) (start-cells cs)
