-- Steps of the machine of a set, by the statement due: of the routine that runs, a call, a return. A stack is given before its ended tables are settled, so
-- that what a level of the interpreter sees is one point.
use Rattle.statements.specs.declared.Statement.{Statement}
use Prim.Native.Nat.{ℕ, zero, suc, ◌≤◌, ◌<◌}
use Rattle.std.specs.Prelude.{◌≡◌, Bool, true, false, ◌&&◌, None, Option, Some}
use Rattle.std.proofs.Math.Path.{refl, ap}
use Rattle.std.proofs.Common.{sym, ◌∙◌, arith}
use Rattle.std.proofs.Math.Bool.{cond}
use mathlib.Core.List.{List, [], ◌∷◌}
use borrow.Author.Tests.{lt-ltb, le-ltb, le-leb, lt-leb}
use Rattle.std.proofs.Math.Dec.{leb, ltb}
use Rattle.statements.specs.Statements.{statement_at}
use Rattle.statements.specs.declared.CallSite.{CallSite}
use Rattle.statements.specs.declared.Statement.TheVariants.{Plain, If, While, Bundle, Call}
use Rattle.rules.specs.Calls.{Routine}
use Rattle.machine.specs.Machine.{Status, going, stopped, stuck, Point, next_point}
use Rattle.machine.specs.SetMachine.{Frame, Stack, stack, is_going, table_of, sections_of, environment_of, result_of, has_ended, resumed, settled, waiting}
use Rattle.machine.specs.SetMachine.{begun}
use Rattle.machine.specs.SetMachine.{own_step, stack_step, next_if, next_stack, stack_after}

and-false : (b : Bool) → (b && false) ≡ false
and-false true = refl
and-false false = refl

module _ (rs : List Routine) (D : List ℕ) where
  -- ---- steps in a row

  pub later : (t : ℕ) (K : Stack) → stack_after rs D (suc t) K ≡ stack_after rs D t (next_stack rs D K)
  unfolding stack_after
  later zero K = refl
  later (suc t) K = ap (next_stack rs D) (later t K)

  -- A state that is its own next one.
  pub stays : (K : Stack) → next_stack rs D K ≡ K → (t : ℕ) → stack_after rs D t K ≡ K
  unfolding stack_after
  stays K e zero = refl
  stays K e (suc t) = ap (next_stack rs D) (stays K e t) ∙ e

  -- ---- tables that have ended

  -- Where a statement is due, no table has ended.
  pub settled-due : (fs : List Frame) (n : ℕ) (P : Point) → P.due < (sections_of rs D n).statements → settled rs D fs n P ≡ stack fs n P
  unfolding settled
  settled-due [] n P l = refl
  settled-due (F ∷ fs) n P l =
      ap (λ (b : Bool). cond b (settled rs D fs F.routine (resumed rs D F P (result_of rs D n P))) (stack (F ∷ fs) n P))
      (ap (λ (b : Bool). is_going P.status && b) (lt-leb (sections_of rs D n).statements P.due l) ∙ and-false (is_going P.status))

  pub settled-stopped : (fs : List Frame) (n : ℕ) (P : Point) (k : ℕ) → P.status ≡ stopped k → settled rs D fs n P ≡ stack fs n P
  unfolding settled
  settled-stopped [] n P k e = refl
  settled-stopped (F ∷ fs) n P k e = rw e

  pub settled-alone : (n : ℕ) (P : Point) → settled rs D [] n P ≡ stack [] n P
  unfolding settled
  settled-alone n P = refl

  -- "in the step that ends the callee's table .. the caller gets it and what follows the call is due".
  pub settled-ended : (F : Frame) (fs : List Frame) (n : ℕ) (P : Point) → P.status ≡ going → (sections_of rs D n).statements ≤ P.due
      → settled rs D (F ∷ fs) n P ≡ settled rs D fs F.routine (resumed rs D F P (result_of rs D n P))
  unfolding settled
  settled-ended F fs n P g l =
      ap (λ (b : Bool). cond b (settled rs D fs F.routine (resumed rs D F P (result_of rs D n P))) (stack (F ∷ fs) n P))
      (ap (λ (s : Status). is_going s && leb (sections_of rs D n).statements P.due) g ∙ le-leb (sections_of rs D n).statements P.due l)

  -- ---- a step

  module _ (fs : List Frame) (n : ℕ) (P : Point) (g : P.status ≡ going) (d : P.due < (sections_of rs D n).statements) where
    next-is : next_stack rs D (stack fs n P) ≡ stack_step rs D (statement_at (table_of rs D n) (sections_of rs D n) P.due) (stack fs n P)
    unfolding next_stack
    next-is =
        ap (λ (b : Bool). next_if rs D b (stack fs n P))
        (ap (λ (s : Status). is_going s && ltb P.due (sections_of rs D n).statements) g ∙ lt-ltb P.due (sections_of rs D n).statements d)

    -- A call.
    pub next-call : (c : CallSite) → statement_at (table_of rs D n) (sections_of rs D n) P.due ≡ Some (Call c)
        → next_stack rs D (stack fs n P) ≡ settled rs D (waiting rs D (stack fs n P) c ∷ fs) c.callee (begun rs D c P)
    unfolding stack_step
    next-call c e = next-is ∙ ap (λ (s : Option Statement). stack_step rs D s (stack fs n P)) e

    own-step : (s : Option Statement) → ((c : CallSite) → s ≡ Some (Call c) → ⊥)
        → stack_step rs D s (stack fs n P) ≡ settled rs D fs n (next_point (table_of rs D n) (sections_of rs D n) (environment_of rs D n) D P.status P)
    unfolding stack_step
    own-step (Some (Call c)) k = absurd (k c refl)
    own-step (Some (Plain s)) k = refl
    own-step (Some (If c x y)) k = refl
    own-step (Some (While c x)) k = refl
    own-step (Some (Bundle x)) k = refl
    own-step None k = refl

    -- Any other statement.
    pub next-own : ((c : CallSite) → statement_at (table_of rs D n) (sections_of rs D n) P.due ≡ Some (Call c) → ⊥)
        → next_stack rs D (stack fs n P) ≡ settled rs D fs n (next_point (table_of rs D n) (sections_of rs D n) (environment_of rs D n) D P.status P)
    next-own k = next-is ∙ own-step (statement_at (table_of rs D n) (sections_of rs D n) P.due) k

  -- ---- a run that has ended

  pub rests-stopped : (fs : List Frame) (n : ℕ) (P : Point) (k : ℕ) → P.status ≡ stopped k → next_stack rs D (stack fs n P) ≡ stack fs n P
  unfolding next_stack
  rests-stopped fs n P k e = ap (λ (s : Status). next_if rs D (is_going s && ltb P.due (sections_of rs D n).statements) (stack fs n P)) e

  pub rests-ended : (fs : List Frame) (n : ℕ) (P : Point) → (sections_of rs D n).statements ≤ P.due → next_stack rs D (stack fs n P) ≡ stack fs n P
  unfolding next_stack
  rests-ended fs n P l =
      ap (λ (b : Bool). next_if rs D b (stack fs n P))
      (ap (λ (b : Bool). is_going P.status && b) (le-ltb P.due (sections_of rs D n).statements l) ∙ and-false (is_going P.status))
