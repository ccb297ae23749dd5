-- Runs in turns: what the code's loop needs at a turn, what the turn leaves, and the claim of point 5 about each routine.
use Rattle.std.specs.Prelude.{ℕ, zero, suc, ◌+◌, ◌-◌, ◌<◌, ◌≤◌, ◌≡◌, ◌≢◌, Bool, true, false, cond, ltb, ℤ, length, get_or, Some}
use Rattle.std.proofs.Math.Path.{refl, sym, ap, subst}
use Rattle.std.proofs.Common.{◌∙◌, arith, ltb-true}
use mathlib.Core.List.{List, [], ◌∷◌}
use Rattle.answers.specs.Answers.{reads}
use Rattle.answers.specs.Answers as says
use Rattle.answers.specs.declared.stops.Outcome.{Outcome}
use Rattle.answers.specs.declared.stops.Outcome.TheVariants.{Spent, Done}
use Rattle.words.specs.declared.sections.Sections.{Sections}
use Rattle.statements.specs.Statements.{statement_at}
use Rattle.statements.specs.declared.CallSite.{CallSite}
use Rattle.statements.specs.declared.Statement.TheVariants.{Call}
use Rattle.table.specs.Form.{sections_of}
use Rattle.table.specs.FormLaws.{well-formed}
use Rattle.rules.specs.Calls.{routine_at}
use Rattle.rules.specs.Sets as sets
use Rattle.rules.specs.AcceptedLaws.{clear}
use Rattle.rules.specs.Verdict.{environment_of}
use Rattle.rules.specs.BoundsRules.{own_rows}
use Rattle.rules.specs.declared.Environment.{Environment}
use Rattle.machine.specs.Machine.{Status, going, stopped, stuck, Point, start}
use Rattle.machine.specs.AlonePoints.{point_after}
use Rattle.machine.specs.SetMachine.{Stack, stack, stack_after}
use Rattle.machine.specs.Alone.{after-alone}
use Rattle.machine.specs.Points.{CellOf}
use Rattle.machine.specs.Soundness.{Begun}
use Rattle.machine.specs.RunSound.{sound}
use Rattle.machine.specs.Frame.{Elsewhere, Origins, SameCells, with_cells, Alike, Own}
use Rattle.machine.specs.FrameLaws.{alike-with, same-trans, own-names, own-origins, run_framed, turn-alike, turn-framed}
use Rattle.entry.specs.Ends.{ends_of}
use Rattle.interpreter.specs.BareRun.{BareResult, Ends, bare_run, SafeRun}
use Rattle.interpreter.specs.Agreement.{result_shown, KnownAt, Runnable}
use Rattle.interpreter.specs.AgreementLaws.{safe-run, run-agrees}
use Rattle.interpreter.specs.EndsLaws.{ends-long, ends-small, ends_named, ends-sizes}
use Rattle.interpreter.specs.Slots.{Laid}
use Rattle.interpreter.specs.SlotsLaws.{slots-long}
use Rattle.interpreter.specs.StartLaws.{Admitted, admitted, start-runnable, first-due, start-laid}
use Rattle.interpreter.specs.StepLaws.{steps-made, steps-counted, counts-on}
use Rattle.interpreter.specs.AnswerLaws.{never}
use Rattle.interpreter.specs.AloneLaws.{lends, leaves, point_alone, answer_alone, unstuck, rows_long, calls-none, reads_at, point-alone, ran-alone}
use Rattle.interpreter.specs.ClaimLaws.{begun, run-plain, run-passes, run-judged, begun-ran}
use Rattle.interpreter.specs.Starts.{Launched}
use Rattle.interpreter.specs.Claim.{Lent, state_of, answer_of, answer_at, RunJudged}
use Rattle.interpreter.specs.Outcomes.{outcome_shown}
use Rattle.rounds.specs.Rounds.{is_spent, steps_of, in_memory}
use Rattle.rounds.specs.InTurn.{InTurn, LeftOthers}

-- ---- answers

pub answer-steps : (h : Sections) (s : Status) (n a : ℕ) → steps_of (answer_of h s n a) ≡ n
answer-steps h going n a = go (ltb a h.statements)
  where
    go : (b : Bool) → steps_of (cond b (says.spent n a) (says.done n)) ≡ n
    go true = refl
    go false = refl
answer-steps h (stopped k) n a = refl
answer-steps h stuck n a = refl

pub spent-going : (h : Sections) (s : Status) (n a : ℕ) → is_spent (answer_of h s n a) ≡ true → (s ≡ going) × (a < h.statements)
spent-going h going n a e = go (ltb a h.statements) refl e
  where
    go : (b : Bool) → ltb a h.statements ≡ b → is_spent (cond b (says.spent n a) (says.done n)) ≡ true → (going ≡ going) × (a < h.statements)
    go true q e = (refl, ltb-true a h.statements q)
    go false q e = let z : ◌≡◌ {A = ℕ} 0 1 = cc in never z
spent-going h (stopped k) n a e = let z : ◌≡◌ {A = ℕ} 0 1 = cc in never z
spent-going h stuck n a e = let z : ◌≡◌ {A = ℕ} 0 1 = cc in never z

-- Where the code's outcome at a point is spent.
pub shown-spent : (h : Sections) (s : Status) (m d n a : ℕ) → Spent n a ≡ outcome_shown h s m d → (s ≡ going) × (m ≡ n) × (d ≡ a) × (d < h.statements)
shown-spent h going m d n a e = go (ltb d h.statements) refl e
  where
    go : (b : Bool) → ltb d h.statements ≡ b → Spent n a ≡ cond b (Spent m d) (Done m) → (going ≡ going) × (m ≡ n) × (d ≡ a) × (d < h.statements)
    go true q e = (refl, (cc), (cc), ltb-true d h.statements q)
    go false q e = let z : ◌≡◌ {A = ℕ} 0 1 = cc in never z
shown-spent h (stopped k) m d n a e = let z : ◌≡◌ {A = ℕ} 0 1 = cc in never z
shown-spent h stuck m d n a e = let z : ◌≡◌ {A = ℕ} 0 1 = cc in never z

origin-below : (n k : ℕ) → ((o : ℕ) → n ≡ suc o → o < k) → n ≤ k
origin-below zero k f = omega arith
origin-below (suc o) k f = f o refl

-- ---- a routine that is launched

module _ {T : List ℤ} {listed : List ℤ} {D cs vs os W₀ S : List ℕ} (L : Launched T (sections_of T) listed D cs vs os W₀ S) where
  abbrev h : Sections
  h = sections_of T

  abbrev l : Lent
  l = lends D cs vs os

  abbrev E : Environment
  E = environment_of T h

  abbrev first : Point
  first = start T h E D cs vs os

  abbrev point : ℕ → Point
  point t = point_alone T h D cs vs os t

  launched-begun : Begun h E D cs vs os
  launched-begun = begun T h listed L.formed L.accepts D cs vs os L.small L.none

  entry : Admitted h E D cs vs os
  entry = admitted h E D cs vs os L.none

  free : (t : ℕ) → (point t).status ≢ stuck
  free = unstuck T h listed L.formed L.accepts D cs vs os launched-begun

  rows : (t : ℕ) → length (point t).rows ≡ 16
  rows = rows_long T h listed L.formed L.accepts D cs vs os launched-begun

  pub values-count : (t : ℕ) → length (point t).values ≡ h.variables
  values-count t = (sound T h listed L.formed L.accepts D cs vs os launched-begun t).values-long

  none_yet : first.steps ≡ 0
  unfolding start
  none_yet = refl

  first-own : Origins (Own h) first.origins
  unfolding start
  first-own = own-origins h os launched-begun.origins

  -- ---- the machine of a set of one makes the routine's own steps

  stands : (t : ℕ) → state_of (T ∷ []) l t ≡ stack [] 0 (point t)
  stands = point-alone T h listed L.formed L.accepts D cs vs os launched-begun

  answer-at : (t : ℕ) → answer_at (T ∷ []) l t ≡ answer_alone T h D cs vs os t
  unfolding sets.routines_of sets.members
  answer-at t =
      ap (λ (K : Stack). answer_of (routine_at (sets.routine_of T ∷ []) K.routine).sections K.point.status K.point.steps K.point.due) (stands t)

  pub answer-made : (t : ℕ) → steps_of (answer_at (T ∷ []) l t) ≡ (point t).steps
  answer-made t = ap steps_of (answer-at t) ∙ answer-steps h (point t).status (point t).steps (point t).due

  -- ---- the steps that it makes

  pub made-most : (t : ℕ) → steps_of (answer_at (T ∷ []) l t) ≤ t
  made-most t = omega (arith, answer-made t, (steps-made T h E D first free none_yet t).at_most)

  due-spent : (t : ℕ) → is_spent (answer_at (T ∷ []) l t) ≡ true → ((point t).status ≡ going) × ((point t).due < h.statements)
  due-spent t w = spent-going h (point t).status (point t).steps (point t).due (sym (ap is_spent (answer-at t)) ∙ w)

  pub made_all : (t : ℕ) → is_spent (answer_at (T ∷ []) l t) ≡ true → steps_of (answer_at (T ∷ []) l t) ≡ t
  made_all t w = let d = due-spent t w in answer-made t ∙ steps-counted T h E D first free none_yet t d.0 d.1

  pub made_more : (t q : ℕ) → is_spent (answer_at (T ∷ []) l t) ≡ true → 0 < q → t < steps_of (answer_at (T ∷ []) l (t + q))
  made_more t q w p =
      let d = due-spent t w in
      omega (
        arith,
        steps-counted T h E D first free none_yet t d.0 d.1,
        counts-on T h E D first free (t + q) t (omega arith) d.0 d.1,
        answer-made (t + q),
      )

  -- ---- before its first turn, and while others have theirs

  pub turn-begins : InTurn T l 0 (outcome_shown h going 0 0) W₀ vs cs
  unfolding start point_after
  turn-begins = record {
    made = refl;
    answer = ap (outcome_shown h going 0) (first-due T h);
    ends = L.ends;
    values = refl;
    memory = record { long = refl; cells = λ i c. refl };
  }

  -- Whatever the ends are now.
  pub relaid : Launched T h listed D cs vs os (ends_of E own_rows) S
  relaid = record {
    formed = L.formed;
    accepts = L.accepts;
    small = L.small;
    none = L.none;
    ends = refl;
    slice = L.slice;
    room = L.room;
    report = L.report;
    reports = L.reports;
    successors = L.successors;
  }

  pub others-turn : {t : ℕ} {o : Outcome} {W vs' M : List ℕ} (N : List ℕ) → SameCells D (Own h) M N → InTurn T l t o W vs' M → InTurn T l t o W vs' N
  others-turn {t} {o} {W} {vs'} {M} N s i =
      record { made = i.made; answer = i.answer; ends = i.ends; values = i.values; memory = same-trans D (Own h) (point t).cells M N i.memory s }

  shown-reads : {t : ℕ} {o : Outcome} {W vs' M : List ℕ} → InTurn T l t o W vs' M → reads o ≡ answer_alone T h D cs vs os t
  shown-reads {t} i = ap reads i.answer ∙ reads_at T h listed L.formed L.accepts D cs vs os launched-begun t

  -- What the outcome reads as is what the run by itself answers.
  pub turn-reads : {t : ℕ} {o : Outcome} {W vs' M : List ℕ} → InTurn T l t o W vs' M → reads o ≡ answer_at (T ∷ []) l t
  turn-reads {t} i = shown-reads i ∙ sym (answer-at t)

  -- ---- its own turn

  -- Wherever it stands in a memory with its own cells, it goes on as by itself,
  own-alike : (t s : ℕ) (M : List ℕ) → SameCells D (Own h) (point t).cells M → Alike D (Own h) (point (t + s)) (point_after T h E D s (with_cells (point t) M))
  own-alike t s M c = turn-alike T h E D (Own h) (own-names T h) first first-own t s (with_cells (point t) M) (alike-with D (Own h) (point t) M c)

  -- comes to no call,
  calls-none-there : (t s : ℕ) (M : List ℕ) → SameCells D (Own h) (point t).cells M → (c : CallSite)
      → statement_at T h (point_after T h E D s (with_cells (point t) M)).due ≡ Some (Call c) → ⊥
  calls-none-there t s M same c e =
      calls-none T h listed L.formed L.accepts D cs vs os launched-begun (t + s) c
      (ap (λ (X : Point). statement_at T h X.due) (own-alike t s M same).rest ∙ e)

  -- so that the machine of the set of one goes on as its own.
  abbrev goes : ℕ → ℕ → List ℕ → Stack
  goes t s M = stack_after (sets.routines_of (T ∷ [])) D s (in_memory (state_of (T ∷ []) l t) M)

  goes-point : (t s : ℕ) (M : List ℕ) → SameCells D (Own h) (point t).cells M → (goes t s M).point ≡ point_after T h E D s (with_cells (point t) M)
  unfolding sets.routines_of sets.members
  goes-point t s M same =
      ap (λ (K : Stack). (stack_after (sets.routine_of T ∷ []) D s (in_memory K M)).point) (stands t)
      ∙ ap (λ (K : Stack). K.point) (after-alone (sets.routine_of T) D (with_cells (point t) M) (λ k. calls-none-there t k M same) s)

  pub goes-alike : (t s : ℕ) (M : List ℕ) → SameCells D (Own h) (point t).cells M
      → Alike D (Own h) (state_of (T ∷ []) l (t + s)).point (goes t s M).point
  goes-alike t s M c = rw (goes-point t s M c, ap (λ (K : Stack). K.point) (stands (t + s))) (own-alike t s M c)

  pub goes-leaves : (t s : ℕ) (M : List ℕ) → SameCells D (Own h) (point t).cells M → LeftOthers h D M (goes t s M).point.cells
  goes-leaves t s M c =
      let f = turn-framed T h E D (Own h) (own-names T h) first first-own t s (with_cells (point t) M) (alike-with D (Own h) (point t) M c) in
      rw (goes-point t s M c) (record { long = f.long; elsewhere = f.elsewhere })

  -- After a turn it stands after the steps that it made.
  pub made-same : (t : ℕ) → point (steps_of (answer_at (T ∷ []) l t)) ≡ point t
  made-same t = ap point (answer-made t) ∙ (steps-made T h E D first free none_yet t).same

  -- Its own cells after a turn.
  pub made_cells : (t s : ℕ) (M : List ℕ) → SameCells D (Own h) (point t).cells M
      → SameCells D (Own h) (point (steps_of (answer_at (T ∷ []) l (t + s)))).cells (goes t s M).point.cells
  made_cells t s M c = rw (made-same (t + s), goes-point t s M c) (own-alike t s M c).memory

  first-runnable : Runnable T h E D (ends_of E first.rows) S first
  unfolding start
  first-runnable = rw L.successors
      (start-runnable T h D cs vs os L.slice L.report (well-formed T h L.formed) (clear [] T h listed L.formed L.accepts).laid L.room entry
      free rows (run-plain T h listed L.formed L.accepts D cs vs os L.small L.none L.report L.reports)
      (run-passes T h listed L.formed L.accepts D cs vs os L.small L.none L.report L.reports))

  -- What the code's run needs holds also where the run by itself stands later, whatever the cells elsewhere are.
  alike-runnable : (t : ℕ) (Q : Point) → Alike D (Own h) (point t) Q → Runnable T h E D (ends_of E Q.rows) S Q
  alike-runnable t Q a =
      let f = run_framed T h E D (Own h) (own-names T h) t first first-own in
      let R = first-runnable in
      record {
        ends = refl;
        successors = R.successors;
        reads = R.reads;
        objects = λ o b. omega (arith, R.objects o b, f.long, a.memory.long);
        origins = λ p. origin-below (get_or Q.origins p 0) h.objects (subst (λ (X : Point). Origins (Own h) X.origins) a.rest f.origins p);
        rows_long = λ n. sym (ap (λ (X : Point). length X.rows) (turn-alike T h E D (Own h) (own-names T h) first first-own t n Q a).rest) ∙ rows (t + n);
        unstuck = λ n e. free (t + n) (ap (λ (X : Point). X.status) (turn-alike T h E D (Own h) (own-names T h) first first-own t n Q a).rest ∙ e);
        known = λ n. subst (KnownAt T h E S) (turn-alike T h E D (Own h) (own-names T h) first first-own t n Q a).rest (R.known (t + n));
      }

  module _ {t n a : ℕ} {W vs' M : List ℕ} (i : InTurn T l t (Spent n a) W vs' M) where
    abbrev here : Point
    here = with_cells (point t) M

    alike : Alike D (Own h) (point t) here
    alike = alike-with D (Own h) (point t) M i.memory

    at_turn : ((point t).status ≡ going) × ((point t).steps ≡ n) × ((point t).due ≡ a) × ((point t).due < h.statements)
    at_turn = shown-spent h (point t).status (point t).steps (point t).due n a i.answer

    pub turn-steps : n ≡ t
    turn-steps = sym at_turn.1 ∙ i.made

    pub turn-laid : Laid T h W D S vs'
    turn-laid =
        let p = start-laid T h D cs vs os L.slice L.report (well-formed T h L.formed) (clear [] T h listed L.formed L.accepts).laid L.room
        entry in
        let m : length vs' ≡ h.variables = ap length i.values ∙ values-count t in
        rw i.ends (record {
          prepared = record {
            table = p.prepared.table;
            ends = ends-long E (point t).rows;
            small = ends-small T h (well-formed T h L.formed).limits (point t).rows;
            sizes = ends-sizes T h (point t).rows;
            named = ends_named T h (well-formed T h L.formed).limits (point t).rows;
            directory = p.prepared.directory;
            successors = rw L.successors p.prepared.successors;
            slots = slots-long vs';
          };
          enough = omega arith;
          few = omega (arith, (well-formed T h L.formed).limits.variables);
        })

    -- The loop may go on from the statement a, with the values and the memory as they are now.
    pub turn-safe : (q : ℕ) → SafeRun T h W D S q a vs' M
    turn-safe q = rw (i.ends, ← at_turn.2, i.values) (safe-run T h E D S (ends_of E here.rows) q here at_turn.0 (alike-runnable t here alike))

    turn-result : (q : ℕ) → bare_run T h W D S q n a vs' M ≡ result_shown E h (point_after T h E D q here)
    turn-result q = rw (i.ends, ← at_turn.1, ← at_turn.2, i.values) (run-agrees T h E D S (ends_of E here.rows) q here at_turn.0
        (alike-runnable t here alike))

    module _ (q : ℕ) {o : Outcome} {X' ws N : List ℕ} (x : Ends (bare_run T h W D S q n a vs' M) o X' ws N) where
      after-alike : Alike D (Own h) (point (t + q)) (point_after T h E D q here)
      after-alike = turn-alike T h E D (Own h) (own-names T h) first first-own t q here alike

      taken : Point → Type 0
      taken P = (o ≡ outcome_shown h P.status P.steps P.due) × (X' ≡ ends_of E P.rows) × (ws ≡ P.values) × SameCells D (Own h) P.cells N

      after-taken : taken (point (t + q))
      unfolding taken
      after-taken =
          let e = turn-result q in
          let b = after-alike in (
            x.outcome ∙ ap (λ (r : BareResult). r.outcome) e ∙ sym (ap (λ (X : Point). outcome_shown h X.status X.steps X.due) b.rest),
            x.ends ∙ ap (λ (r : BareResult). r.ends) e ∙ sym (ap (λ (X : Point). ends_of E X.rows) b.rest),
            x.values ∙ ap (λ (r : BareResult). r.values) e ∙ sym (ap (λ (X : Point). X.values) b.rest),
            subst (λ (s : List ℕ). SameCells D (Own h) (point (t + q)).cells s) (sym (x.cells ∙ ap (λ (r : BareResult). r.cells) e)) b.memory,
          )

      -- After q steps more, or fewer where it ends, it stands as a run by itself with that allowance,
      pub turn-taken : InTurn T l (steps_of (answer_at (T ∷ []) l (t + q))) o X' ws N
      unfolding taken
      turn-taken =
          let z = answer-made (t + q) in
          let same = made-same (t + q) in
          let u : taken (point (steps_of (answer_at (T ∷ []) l (t + q)))) = subst taken (sym same) after-taken in
          record { made = ap (λ (X : Point). X.steps) same ∙ sym z; answer = u.0; ends = u.1; values = u.2; memory = u.3 }

      -- in the memory that the plain machine leaves,
      own-left : N ≡ (point_after T h E D q here).cells
      own-left = x.cells ∙ ap (λ (r : BareResult). r.cells) (turn-result q)

      pub turn-cells : N ≡ (goes t q M).point.cells
      turn-cells = own-left ∙ sym (ap (λ (P : Point). P.cells) (goes-point t q M i.memory))

      -- and it has left the others' cells.
      pub turn-leaves : LeftOthers h D M N
      turn-leaves =
          let f = turn-framed T h E D (Own h) (own-names T h) first first-own t q here alike in
          let c = own-left in
          record { long = ap length c ∙ f.long; elsewhere = λ j g. ap (λ (s : List ℕ). get_or s j 0) c ∙ f.elsewhere j g }

  -- ---- THE CLAIM OF POINT 5 about a routine, wherever its turns have led it

  pub in_turns : {t : ℕ} {o : Outcome} {W vs' M : List ℕ} → InTurn T l t o W vs' M → RunJudged T listed l t (leaves o vs' (point t).cells)
  in_turns {t} {o} {W} {vs'} {M} i =
      run-judged T listed D cs vs os t o vs' (point t).cells
      (begun-ran T h listed D cs vs os t o vs' (point t).cells L.formed L.accepts L.none
      (ran-alone T h listed L.formed L.accepts D cs vs os launched-begun t o vs' (point t).cells (shown-reads i) i.values refl))

-- The turn of a routine leaves the cells of another whose objects do not overlap.
pub others_same : (h g : Sections) (D F M N : List ℕ) → ((i : ℕ) → CellOf F (Own g) i → Elsewhere D (Own h) i) → LeftOthers h D M N → SameCells F (Own g) M N
others_same h g D F M N apart x = record { long = sym x.long; cells = λ i c. sym (x.elsewhere i (apart i c)) }
