-- What one step of the plain machine does, by the statement due and the checks: for the claim about every point.
use Rattle.statements.specs.declared.Statement.{Statement}
use Rattle.std.specs.Prelude.{ℕ, ◌+◌, ◌≤◌, ◌<◌, ◌≡◌, ◌≢◌, ◌↔◌, Bool, true, false, List, ltb, ℤ, None, Option, Some}
use Rattle.std.proofs.Math.Path.{refl}
use Rattle.std.proofs.Common.{sym, ap, subst, ◌∙◌, arith, add-one, lt-ltb, le-ltb, ltb-true, ltb-false}
use Rattle.words.specs.declared.sections.Sections.{Sections}
use Rattle.statements.specs.Statements.{statement_at}
use Rattle.statements.specs.declared.Statement.TheVariants.{Plain, If, While, Bundle, Call}
use Rattle.blocks.specs.Flow.{Successors}
use Rattle.rules.specs.BoundsRules.{in_force}
use Rattle.rules.specs.declared.Environment.{Environment}
use Rattle.machine.specs.Machine.{Failing, none, fails, failing, condition_holds, Status, going, stopped, stuck, Point, Performed, done, no_step}
use Rattle.machine.specs.Machine.{performed, memory_of, moved, halted, after_checks, branched, statement_step, successors_of, next_point}
use Rattle.machine.specs.AlonePoints.{point_after}
use Rattle.machine.specs.Points.{failing_at}
use Rattle.interpreter.specs.Traces.{counts, all-counted, StepsMade, steps-made as made}

-- The step from P to Q, where f is the first check that fails.
pub record StepFacts (f : Failing) (P Q : Point) : Type 0 where
  pub stops : (n : ℕ) → (Q.status ≡ stopped n) ↔ (f ≡ fails n)
  pub same : (n : ℕ) → Q.status ≡ stopped n → Q ≡ halted P n
  pub goes : f ≡ none → Q.status ≡ going
  pub counts : Q.status ≡ going → Q.steps ≡ P.steps + 1

never : {A : Type 0} → ◌≡◌ {A = ℕ} 0 1 → A
never z = absurd (omega arith)

-- A step to another statement, where no check fails.
moves : (P Q : Point) → Q.status ≡ going → Q.steps ≡ P.steps + 1 → StepFacts none P Q
moves P Q g c = record {
  stops = λ n. ((λ e. let z : ◌≡◌ {A = ℕ} 0 1 = cc in never z), (λ e. let z : ◌≡◌ {A = ℕ} 0 1 = cc in never z));
  same = λ n e. let z : ◌≡◌ {A = ℕ} 0 1 = cc in never z;
  goes = λ e. g;
  counts = λ e. c;
}

halts : (P : Point) (k : ℕ) → StepFacts (fails k) P (halted P k)
halts P k = record {
  stops = λ n. ((λ e. cc), (λ e. cc));
  same = λ n e. let q : k ≡ n = cc in ap (halted P) q;
  goes = λ e. let z : ◌≡◌ {A = ℕ} 0 1 = cc in never z;
  counts = λ e. let z : ◌≡◌ {A = ℕ} 0 1 = cc in never z;
}

simple-facts : (f : Failing) (p : Performed) (P : Point) (next : ℕ) → (after_checks f P next p).status ≢ stuck → StepFacts f P (after_checks f P next p)
simple-facts (fails n) p P next u = halts P n
simple-facts none (done m) P next u = moves P (moved P m next) refl refl
simple-facts none no_step P next u = absurd (u refl)

branch-facts : (b : Bool) (P : Point) (n : Successors) → StepFacts none P (branched b P n)
branch-facts true P n = moves P (branched true P n) refl refl
branch-facts false P n = moves P (branched false P n) refl refl

pub step-facts : (E : Environment) (D : List ℕ) (s : Option Statement) (n : Successors) (P : Point) → (statement_step E D s n P).status ≢ stuck
    → StepFacts (failing_at (in_force E P.rows) s P.values) P (statement_step E D s n P)
unfolding statement_step
step-facts E D (Some (Plain s)) n P u = simple-facts (failing (in_force E P.rows) P.values s) (performed E D s (memory_of P)) P n.next u
step-facts E D (Some (If c x y)) n P u = branch-facts (condition_holds P.values c) P n
step-facts E D (Some (While c x)) n P u = branch-facts (condition_holds P.values c) P n
step-facts E D (Some (Bundle x)) n P u = moves P (moved P (memory_of P) n.next) refl refl
step-facts E D (Some (Call c)) n P u = absurd (u refl)
step-facts E D None n P u = absurd (u refl)

module _ (T : List ℤ) (h : Sections) (E : Environment) (D : List ℕ) where
  -- The next point of one that goes on.
  pub next-going : (P : Point) → P.due < h.statements → next_point T h E D going P ≡ statement_step E D (statement_at T h P.due) (successors_of T h E D
      P.due) P
  unfolding next_point
  next-going P l = rw (lt-ltb P.due h.statements l)

  next-done : (P : Point) → h.statements ≤ P.due → next_point T h E D going P ≡ P
  unfolding next_point
  next-done P l = rw (le-ltb P.due h.statements l)

  -- The points of a routine by itself are counted as those of any machine.
  module _ (P₀ : Point) (unstuck : (t : ℕ) → (point_after T h E D t P₀).status ≢ stuck) where
    abbrev point : ℕ → Point
    point t = point_after T h E D t P₀

    abbrev status : Point → Status
    status P = P.status

    abbrev steps : Point → ℕ
    steps P = P.steps

    abbrev due : Point → Bool
    due P = ltb P.due h.statements

    after : (t : ℕ) → point (t + 1) ≡ next_point T h E D (point t).status (point t)
    unfolding point_after
    after t = rw (add-one t)

    rests : (t : ℕ) → ((point t).status ≡ going → due (point t) ≡ false) → point (t + 1) ≡ point t
    unfolding next_point
    rests t k = after t ∙ go (point t).status refl
      where
        go : (s : Status) → (point t).status ≡ s → next_point T h E D s (point t) ≡ point t
        go going e = next-done (point t) (ltb-false _ _ (k e))
        go (stopped n) e = refl
        go stuck e = refl

    -- A step from a statement that is due is counted.
    counted : (t : ℕ) → (point t).status ≡ going → due (point t) ≡ true → (point (t + 1)).steps ≡ (point t).steps + 1
    counted t g l = by-status (point (t + 1)).status refl
      where
        next : point (t + 1) ≡ statement_step E D (statement_at T h (point t).due) (successors_of T h E D (point t).due) (point t)
        next = after t ∙ (ap (λ (s : Status). next_point T h E D s (point t)) g ∙ next-going (point t) (ltb-true _ _ l))

        facts : StepFacts (failing_at (in_force E (point t).rows) (statement_at T h (point t).due) (point t).values) (point t) (point (t + 1))
        facts = subst (λ (Q : Point). StepFacts (failing_at (in_force E (point t).rows) (statement_at T h (point t).due) (point t).values) (point t) Q)
            (sym next) (step-facts E D _ _ (point t) (λ z. unstuck (t + 1) (ap status next ∙ z)))

        by-status : (s : Status) → (point (t + 1)).status ≡ s → (point (t + 1)).steps ≡ (point t).steps + 1
        by-status going e = facts.counts e
        by-status (stopped n) e = ap steps (facts.same n e)
        by-status stuck e = absurd (unstuck (t + 1) e)

    module _ (none_yet : P₀.steps ≡ 0) where
      start-steps : (point 0).steps ≡ 0
      unfolding point_after
      start-steps = none_yet

      pub steps-counted : (t : ℕ) → (point t).status ≡ going → (point t).due < h.statements → (point t).steps ≡ t
      steps-counted t g l = all-counted point status steps due unstuck rests counted start-steps t g (lt-ltb _ _ l)

      pub steps-made : (t : ℕ) → StepsMade point (λ (P : Point). P.steps) t
      steps-made t = made point status steps due unstuck rests counted start-steps t

    -- A run that takes its step counts it in the end.
    pub counts-on : (u t : ℕ) → t < u → (point t).status ≡ going → (point t).due < h.statements → (point t).steps < (point u).steps
    counts-on u t k g l = counts point status steps due unstuck rests counted u t k g (lt-ltb _ _ l)
