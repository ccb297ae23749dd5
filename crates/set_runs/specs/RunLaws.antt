-- The run of an accepted set from the level of its last routine: it ends where the machine of the set ends.
use Rattle.std.specs.Prelude.{ℕ, ◌-◌, ◌≤◌, ◌<◌, ◌≡◌, refl, Bool, cond, List, [], ◌∷◌, ℤ, length, get_or, take, Err, Result}
use Rattle.std.proofs.Math.Path.{sym, ap₂}
use Rattle.std.proofs.Common.{ap, subst, ◌∙◌, append-nil, le-ltb, length-take}
use native.Mathlib.Omega.{arith}
use Rattle.sums.specs.Numbers.{max_value}
use Rattle.answers.specs.Answers.{reads}
use Rattle.answers.specs.Answers as says
use Rattle.answers.specs.declared.refusals.Refusal.{Refusal}
use Rattle.answers.specs.declared.stops.Outcome.TheVariants.{Done, Refused}
use Rattle.blocks.specs.Flow.{successors, table_flow}
use Rattle.blocks.specs.Shape.{entries_at}
use Rattle.rules.specs.Calls.{Routine, routine_at}
use Rattle.rules.specs.Sets.{routines_of, AllAccepted}
use Rattle.rules.proofs.SetLaws.{length-routines, routine-at}
use Rattle.machine.specs.Machine.{Status, Point, start}
use Rattle.machine.specs.SetMachine.{Frame, Stack, stack, start_stack, stack_after, last_values, table_of, sections_of, environment_of}
use Rattle.machine.specs.SetRun.{set-setting, start-invariant}
use Rattle.entry.specs.Entered.{entered}
use Rattle.interpreter.specs.AnswerLaws.{reads-shown}
use Rattle.interpreter.specs.AloneLaws.{lends}
use Rattle.interpreter.specs.Claim.{Lent, answer_of, last_number, entry_faults, state_of, EndsAt}
use Rattle.interpreter.specs.SetBegunLaws.{begun, unstuck, ends-ran}
use Rattle.interpreter.specs.StartLaws.{admitted, origin-inside, first-due}
use Rattle.sets.specs.Tables.{tables_in}
use Rattle.sets.specs.TableLaws.{length-tables}
use Rattle.set_runs.specs.Levels.{Begins, final, HasReturned, HasHalted, Leaves, Callable, MayCall, LevelLeaves}
use Rattle.set_runs.specs.Lent.{flow_of}
use Rattle.set_runs.specs.Prepared.{AllLaid}
use Rattle.set_runs.specs.PrepareLaws.{some-lengths, few-lengths}
use Rattle.set_runs.specs.SetRuns.{leaves, outcome_of, RunsAccepted}
use Rattle.set_runs.specs.StackLaws.{stays, settled-alone, rests-ended}
use Rattle.set_runs.specs.declared.SetOutcome.{SetOutcome}
use Rattle.set_runs.specs.declared.Level.{Level}
use Rattle.set_runs.specs.declared.Level.TheVariants.{Returns, Halts}

never : {A : Type 0} → ◌≡◌ {A = ℕ} 0 1 → A
never z = absurd (omega arith)

module _ (W : List ℤ) (L D cs vs os : List ℕ) (accepted : AllAccepted (tables_in W L)) (none : entry_faults (tables_in W L) (lends D cs vs os) ≡ [])
    (small-values : (x : ℕ) → get_or vs x 0 ≤ max_value) (small-cells : (i : ℕ) → get_or cs i 0 ≤ max_value) where
  abbrev l : Lent
  l = lends D cs vs os

  abbrev Ts : List (List ℤ)
  Ts = tables_in W L

  abbrev rs : List Routine
  rs = routines_of (tables_in W L)

  abbrev n : ℕ
  n = length (routines_of (tables_in W L)) - 1

  -- "A run begins in the last routine".
  abbrev first : Point
  first = start (table_of rs D n) (sections_of rs D n) (environment_of rs D n) D cs vs os

  -- ---- what its level asks

  callable : {S : List ℕ} → AllLaid W L (length L) S → Callable W L D S (length cs)
  callable {S} a = record {
    accepted = accepted;
    setting = set-setting Ts accepted D cs vs os (begun Ts l accepted none small-values small-cells);
    flow-long = a.long;
    flows = λ k m.
        subst (λ (r : Routine). (i : ℕ) → i < r.sections.statements
        → entries_at (flow_of S k) i ≡ get_or (table_flow r.table r.sections) i (successors 0 0 0))
        (sym (routine-at Ts k (omega (arith, m, length-tables W L)))) (a.flows k m);
  }

  begins : Begins rs D (length cs) [] n first 0 vs cs
  unfolding start start_stack
  begins = record {
    stands = record {
      goes = refl;
      origins = origin-inside (sections_of rs D n) (environment_of rs D n) D cs vs os (admitted (sections_of rs D n) (environment_of rs D n) D cs vs os none);
      invariant = start-invariant Ts accepted D cs vs os (begun Ts l accepted none small-values small-cells);
    };
    due = sym (first-due (table_of rs D n) (sections_of rs D n));
    rows = refl;
    steps = refl;
    values = refl;
    cells = refl;
  }

  last-is : n ≡ length L - 1
  last-is = omega (arith, length-routines Ts, length-tables W L)

  pub level-asks : {k limit : ℕ} {S ends : List ℕ} → k ≡ length L - 1 → length ends ≡ 4096 → AllLaid W L (length L) S → MayCall W L D S k limit 0 ends vs cs
  level-asks {k} {limit} {S} {ends} e f a =
      let q : k ≡ n = omega (arith, e, last-is) in
      record {
        callable = callable a;
        known = omega (arith, e, some-lengths W L accepted);
        room = omega (arith, e, f, some-lengths W L accepted, few-lengths W L accepted);
        within = omega arith;
        called = record { callers = []; point = first; begins = rw q begins };
      }

  -- ---- where the run ends

  state-is : (limit : ℕ) → final rs D (length cs) limit [] n first ≡ state_of Ts l limit
  unfolding start start_stack
  state-is limit =
      let z : limit - 0 ≡ limit = omega arith in
      ap₂ (λ (t : ℕ) (K : Stack). stack_after rs D t K) z (settled-alone rs D n first)

  module _ (limit : ℕ) where
    ends_at : (K : Stack) (o : SetOutcome) (us ds : List ℕ) → state_of Ts l limit ≡ K
        → reads o.outcome ≡ answer_of (routine_at rs K.routine).sections K.point.status K.point.steps K.point.due → o.routine ≡ K.routine
        → us ≡ last_values rs D K.callers K.point.values → ds ≡ K.point.cells → EndsAt Ts l limit (leaves o us ds)
    ends_at K o us ds e a r v c = record {
      answer = a ∙ ap (λ (X : Stack). answer_of (routine_at rs X.routine).sections X.point.status X.point.steps X.point.due) (sym e);
      routine = r ∙ ap (λ (X : Stack). X.routine) (sym e);
      values = v ∙ ap (λ (X : Stack). last_values rs D X.callers X.point.values) (sym e);
      cells = c ∙ ap (λ (X : Stack). X.point.cells) (sym e);
    }

    returned : (s : ℕ) (us ds : List ℕ) → HasReturned rs D (length cs) limit [] n first s us ds
        → EndsAt Ts l limit (leaves (record { outcome = Done s; routine = n }) us ds)
    returned s us ds y =
        let Q = y.point in
        let e : state_of Ts l limit ≡ stack [] n Q =
        sym (state-is limit) ∙ (y.ahead ∙ (ap (stack_after rs D (limit - Q.steps)) (settled-alone rs D n Q)
        ∙ stays rs D (stack [] n Q) (rests-ended rs D [] n Q y.ended) (limit - Q.steps))) in
        let a : answer_of (sections_of rs D n) Q.status Q.steps Q.due ≡ says.done s =
        ap (λ (x : Status). answer_of (sections_of rs D n) x Q.steps Q.due) y.stands.goes
        ∙ (ap (λ (b : Bool). cond b (says.spent Q.steps Q.due) (says.done Q.steps)) (le-ltb Q.due (sections_of rs D n).statements y.ended)
        ∙ ap says.done y.steps) in
        ends_at (stack [] n Q) (record { outcome = Done s; routine = n }) us ds e (sym a) refl (sym y.values) (sym y.cells)

    halted : (o : SetOutcome) (us ds : List ℕ) → HasHalted rs D (length cs) limit [] n first o us ds → EndsAt Ts l limit (leaves o us ds)
    halted o us ds y =
        let e : state_of Ts l limit ≡ stack y.above o.routine y.point =
        sym (state-is limit) ∙ (y.state ∙ ap (λ (fs : List Frame). stack fs o.routine y.point) (append-nil y.above)) in
        ends_at (stack y.above o.routine y.point) o us ds e
        (ap reads y.outcome ∙ reads-shown (sections_of rs D o.routine) y.point.status y.point.steps y.point.due
        (λ z. unstuck Ts l accepted none small-values small-cells limit (ap (λ (K : Stack). K.point.status) e ∙ z)) y.numbered)
        refl y.values y.cells

    level-ends : (level : Level) (us ds : List ℕ) → Leaves rs D (length cs) limit [] n first level us ds → EndsAt Ts l limit (leaves (outcome_of n level) us ds)
    level-ends (Returns s) us ds y = returned s us ds y
    level-ends (Halts o) us ds y = halted o us ds y

    -- What the level of the last routine leaves is the claim.
    pub run-claim : {k : ℕ} (S : List ℕ) {us ds : List ℕ} (level : Level) → k ≡ length L - 1 → LevelLeaves W L D S k limit 0 vs cs level us ds
        → RunsAccepted Ts l limit (leaves (outcome_of k level) us ds)
    run-claim {k} S {us} {ds} level e f =
        let q : k ≡ n = omega (arith, e, last-is) in
        record {
          not_entered = λ x xs y. let z : [] ≡ x ∷ xs = sym none ∙ y in let o : ◌≡◌ {A = ℕ} 0 1 = cc in never o;
          ran = λ z. ends-ran Ts l accepted none small-values small-cells limit (leaves (outcome_of k level) us ds)
              (subst (λ (i : ℕ). EndsAt Ts l limit (leaves (outcome_of i level) us ds)) (sym q)
              (level-ends level us ds ((rw q at f) [] first begins)));
        }

-- ---- the entry refuses

pub entry-refuses : (Ts : List (List ℤ)) (l : Lent) (limit n : ℕ) {v : Result (Unit {0}) Refusal} {r : Refusal} → n ≡ last_number Ts
    → v ≡ entered (entry_faults Ts l)
    → v ≡ Err r
    → RunsAccepted Ts l limit (leaves (record { outcome = Refused r; routine = n }) l.values l.cells)
unfolding entered
entry-refuses Ts l limit n {v} {r} e f g = go (entry_faults Ts l) refl (sym f ∙ g)
  where
    go : (fs : List Refusal) → entry_faults Ts l ≡ fs → entered fs ≡ Err r
        → RunsAccepted Ts l limit (leaves (record { outcome = Refused r; routine = n }) l.values l.cells)
    go [] q z = let o : ◌≡◌ {A = ℕ} 0 1 = cc in never o
    go (x ∷ xs) q z = let same : x ≡ r = cc in record {
      not_entered = λ f fs w.
          let u : x ∷ xs ≡ f ∷ fs = sym q ∙ w in
          let i : x ≡ f = cc in
          let j : r ≡ f = sym same ∙ i in
          record { answer = ap Refused j; routine = e; values = refl; cells = refl };
      ran = λ w. let u : x ∷ xs ≡ [] = sym q ∙ w in let o : ◌≡◌ {A = ℕ} 0 1 = cc in never o;
    }

pub last-number : (W : List ℤ) (L : List ℕ) → length L - 1 ≡ length (routines_of (tables_in W L)) - 1
last-number W L = omega (arith, length-routines (tables_in W L), length-tables W L)

pub taken-all : (n : ℕ) (l : List ℕ) → n ≤ length l → n ≡ length (take n l)
taken-all n l e = sym (length-take n l ∙ omega arith)
