-- What one step of a set's machine does, by the statement due and the checks.
use Rattle.statements.specs.declared.Statement.{Statement}
use Rattle.std.specs.Prelude.{ℕ, zero, suc, ◌+◌, ◌≤◌, ◌<◌, ◌≡◌, ◌≢◌, ◌↔◌, Bool, ◌&&◌, cond, leb, None, Option, Some}
use Rattle.std.proofs.Math.Path.{refl, sym}
use Rattle.std.proofs.Common.{ap, subst, ◌∙◌, arith}
use Rattle.std.proofs.Math.Bool.{true, false}
use Rattle.std.proofs.lemmas.Bool.{false≢true}
use mathlib.Core.List.{List, [], ◌∷◌}
use borrow.Author.Tests.{lt-ltb}
use Rattle.std.proofs.Math.Dec.{ltb}
use Rattle.words.specs.SectionsLaws.{both}
use Rattle.statements.specs.Statements.{statement_at}
use Rattle.statements.specs.declared.CallSite.{CallSite}
use Rattle.statements.specs.declared.Statement.TheVariants.{Plain, If, While, Bundle, Call}
use Rattle.rules.specs.BoundsRules.{in_force}
use Rattle.rules.specs.Calls.{Routine}
use Rattle.machine.specs.Machine.{Failing, none, fails, Status, going, stopped, stuck, Point, halted, statement_step, successors_of, next_point}
use Rattle.machine.specs.Points.{failing_at}
use Rattle.machine.specs.SetMachine.{Frame, Stack, stack, is_going, table_of, sections_of, environment_of, result_of, has_ended, resumed, settled, waiting}
use Rattle.machine.specs.SetMachine.{begun}
use Rattle.machine.specs.SetMachine.{own_step, stack_step, next_if, next_stack}
use Rattle.interpreter.specs.StepLaws.{StepFacts, step-facts, next-going}

never : {A : Type 0} → ◌≡◌ {A = ℕ} 0 1 → A
never z = absurd (omega arith)

-- The step from K to L, where f is the first check that fails.
pub record StackFacts (f : Failing) (K L : Stack) : Type 0 where
  pub stops : (n : ℕ) → (L.point.status ≡ stopped n) ↔ (f ≡ fails n)
  pub same : (n : ℕ) → L.point.status ≡ stopped n → L ≡ stack K.callers K.routine (halted K.point n)
  pub goes : f ≡ none → L.point.status ≡ going
  pub counts : L.point.status ≡ going → L.point.steps ≡ K.point.steps + 1

is-going : (s : Status) → is_going s ≡ true → s ≡ going
is-going going e = refl
is-going (stopped n) e = absurd (false≢true e)
is-going stuck e = absurd (false≢true e)

module _ (rs : List Routine) (D : List ℕ) where
  -- Tables that end change neither the status nor the steps.
  settled-status : (fs : List Frame) (n : ℕ) (P : Point) → (settled rs D fs n P).point.status ≡ P.status
  unfolding settled
  settled-status [] n P = refl
  settled-status (F ∷ fs) n P = go (has_ended rs D n P) refl (settled-status fs F.routine (resumed rs D F P (result_of rs D n P)))
    where
      go : (b : Bool) → has_ended rs D n P ≡ b → (settled rs D fs F.routine (resumed rs D F P (result_of rs D n P))).point.status ≡ going
          → (cond b (settled rs D fs F.routine (resumed rs D F P (result_of rs D n P))) (stack (F ∷ fs) n P)).point.status ≡ P.status
      go true q e = e ∙ sym (is-going P.status (both (is_going P.status) (leb (sections_of rs D n).statements P.due) q).0)
      go false q e = refl

  settled-steps : (fs : List Frame) (n : ℕ) (P : Point) → (settled rs D fs n P).point.steps ≡ P.steps
  unfolding settled
  settled-steps [] n P = refl
  settled-steps (F ∷ fs) n P = go (has_ended rs D n P) (settled-steps fs F.routine (resumed rs D F P (result_of rs D n P)))
    where
      go : (b : Bool) → (settled rs D fs F.routine (resumed rs D F P (result_of rs D n P))).point.steps ≡ P.steps
          → (cond b (settled rs D fs F.routine (resumed rs D F P (result_of rs D n P))) (stack (F ∷ fs) n P)).point.steps ≡ P.steps
      go true e = e
      go false e = refl

  settled-stopped : (fs : List Frame) (n : ℕ) (P : Point) (k : ℕ) → P.status ≡ stopped k → settled rs D fs n P ≡ stack fs n P
  unfolding settled
  settled-stopped [] n P k e = refl
  settled-stopped (F ∷ fs) n P k e = rw e

  module _ (K : Stack) where
    abbrev P : Point
    P = K.point

    own-facts : (f : Failing) (Q : Point) → StepFacts f P Q → StackFacts f K (settled rs D K.callers K.routine Q)
    own-facts f Q s =
        let e : (settled rs D K.callers K.routine Q).point.status ≡ Q.status = settled-status K.callers K.routine Q in
        record {
          stops = λ n. ((λ x. (s.stops n).0 (sym e ∙ x)), (λ x. e ∙ (s.stops n).1 x));
          same = λ n x.
              settled-stopped K.callers K.routine Q n (sym e ∙ x) ∙ ap (stack K.callers K.routine) (s.same n (sym e ∙ x));
          goes = λ x. e ∙ s.goes x;
          counts = λ x. settled-steps K.callers K.routine Q ∙ s.counts (sym e ∙ x);
        }

    call_facts : (c : CallSite) → StackFacts none K (settled rs D (waiting rs D K c ∷ K.callers) c.callee (begun rs D c P))
    call_facts c =
        let e : (settled rs D (waiting rs D K c ∷ K.callers) c.callee (begun rs D c P)).point.status ≡ going =
        settled-status (waiting rs D K c ∷ K.callers) c.callee (begun rs D c P) in
        record {
          stops = λ n. (
            (λ x. let q : going ≡ stopped n = sym e ∙ x in let z : ◌≡◌ {A = ℕ} 0 1 = cc in never z),
            (λ x. let z : ◌≡◌ {A = ℕ} 0 1 = cc in never z),
          );
          same = λ n x. let q : going ≡ stopped n = sym e ∙ x in let z : ◌≡◌ {A = ℕ} 0 1 = cc in never z;
          goes = λ x. e;
          counts = λ x. settled-steps (waiting rs D K c ∷ K.callers) c.callee (begun rs D c P);
        }

    module _ (g : P.status ≡ going) (d : P.due < (sections_of rs D K.routine).statements) where
      own-next : (s : Option Statement) → statement_at (table_of rs D K.routine) (sections_of rs D K.routine) P.due ≡ s
          → ((own_step rs D K).point.status ≢ stuck)
          → StackFacts (failing_at (in_force (environment_of rs D K.routine) P.rows) s P.values) K (own_step rs D K)
      own-next s e u =
          let n = K.routine in
          let Q = next_point (table_of rs D n) (sections_of rs D n) (environment_of rs D n) D P.status P in
          let q : Q ≡ statement_step (environment_of rs D n) D s (successors_of (table_of rs D n) (sections_of rs D n) (environment_of rs D n) D P.due) P =
          ap (λ (x : Status). next_point (table_of rs D n) (sections_of rs D n) (environment_of rs D n) D x P) g
          ∙ (next-going (table_of rs D n) (sections_of rs D n) (environment_of rs D n) D P d
          ∙ ap (λ (x : Option Statement). statement_step (environment_of rs D n) D x
          (successors_of (table_of rs D n) (sections_of rs D n) (environment_of rs D n) D P.due) P) e) in
          own-facts _ Q
          (subst (λ (X : Point). StepFacts (failing_at (in_force (environment_of rs D n) P.rows) s P.values) P X) (sym q)
          (step-facts (environment_of rs D n) D s _ P (λ z. u (settled-status K.callers n Q ∙ (ap (λ (X : Point). X.status) q ∙ z)))))

      by_kind : (s : Option Statement) → statement_at (table_of rs D K.routine) (sections_of rs D K.routine) P.due ≡ s
          → ((stack_step rs D s K).point.status ≢ stuck)
          → StackFacts (failing_at (in_force (environment_of rs D K.routine) P.rows) s P.values) K (stack_step rs D s K)
      unfolding stack_step
      by_kind (Some (Call c)) e u = call_facts c
      by_kind (Some (Plain s)) e u = own-next _ e u
      by_kind (Some (If c x y)) e u = own-next _ e u
      by_kind (Some (While c x)) e u = own-next _ e u
      by_kind (Some (Bundle x)) e u = own-next _ e u
      by_kind None e u = own-next _ e u

      next-is : next_stack rs D K ≡ stack_step rs D (statement_at (table_of rs D K.routine) (sections_of rs D K.routine) P.due) K
      unfolding next_stack
      next-is = rw (g, lt-ltb P.due (sections_of rs D K.routine).statements d)

      -- A step from a statement that is due.
      pub stack-facts : ((next_stack rs D K).point.status ≢ stuck)
          → StackFacts (failing_at (in_force (environment_of rs D K.routine) P.rows)
          (statement_at (table_of rs D K.routine) (sections_of rs D K.routine) P.due) P.values) K (next_stack rs D K)
      stack-facts u = rw next-is (by_kind _ refl (λ z. u (ap (λ (X : Stack). X.point.status) next-is ∙ z)))

    -- A run that has ended stays where it is.
    pub stack-rests : (P.status ≡ going → ltb P.due (sections_of rs D K.routine).statements ≡ false) → next_stack rs D K ≡ K
    unfolding next_stack
    stack-rests k = go P.status refl
      where
        go : (s : Status) → P.status ≡ s → next_if rs D (is_going P.status && ltb P.due (sections_of rs D K.routine).statements) K ≡ K
        go going e = rw (e, k e)
        go (stopped n) e = rw e
        go stuck e = rw e

    -- A step from a statement that is due is counted.
    pub stack-counted : P.status ≡ going → P.due < (sections_of rs D K.routine).statements → ((next_stack rs D K).point.status ≢ stuck)
        → (next_stack rs D K).point.steps ≡ P.steps + 1
    stack-counted g d u = go (next_stack rs D K).point.status refl
      where
        facts : StackFacts (failing_at (in_force (environment_of rs D K.routine) P.rows)
            (statement_at (table_of rs D K.routine) (sections_of rs D K.routine) P.due) P.values) K (next_stack rs D K)
        facts = stack-facts g d u

        go : (s : Status) → (next_stack rs D K).point.status ≡ s → (next_stack rs D K).point.steps ≡ P.steps + 1
        go going e = facts.counts e
        go (stopped n) e = ap (λ (X : Stack). X.point.steps) (facts.same n e)
        go stuck e = absurd (u e)
