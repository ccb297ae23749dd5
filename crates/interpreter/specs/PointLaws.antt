-- What holds at every point of a begun run of accepted routines: demand 3 (`AtPoint`). So of a run it is left to show where it ends (`EndsAt`).
use Rattle.std.specs.Prelude.{ℕ, ◌+◌, ◌-◌, ◌≤◌, ◌<◌, ◌≡◌, ◌≢◌, ◌↔◌, ◌⊎◌, Bool, false, List, [], ◌∷◌, ltb, ℤ, length, get_or, Some}
use Rattle.std.proofs.Math.Path.{refl, subst}
use Rattle.std.proofs.Common.{sym, ap, ◌∙◌, inl, inr, eq-or-lt_of_le, add-one, arith, lt-ltb, le-ltb, ltb-true, ltb-false}
use Rattle.std.proofs.Math.Bool.{true}
use Rattle.std.proofs.Math.ListN.{get_or-eq_default}
use Rattle.answers.specs.Answers.{Answer, reads}
use Rattle.answers.specs.Answers as says
use Rattle.words.specs.declared.sections.Sections.{Sections}
use Rattle.conditions.specs.declared.Condition.{Condition}
use Rattle.statements.specs.Statements.{statement_at}
use Rattle.statements.specs.StatementLaws.{read-typed}
use Rattle.statements.specs.declared.Simple.TheVariants.{Address}
use Rattle.statements.specs.declared.Statement.TheVariants.{Plain, While}
use Rattle.table.specs.Form.{sections_of}
use Rattle.blocks.specs.Tree.{tree}
use Rattle.listed.specs.Entries.{entries_of, EntriesHold}
use Rattle.rules.specs.Calls.{Routine, routine_at, no_routine}
use Rattle.rules.proofs.ListedLaws.{entries-right, entries-mean}
use Rattle.rules.specs.ByChains.{Decider, by_chains, DecidesTable}
use Rattle.rules.specs.StateBefore.{state_before}
use Rattle.rules.specs.Report.{read_safe, safe_at, reported_at}
use Rattle.rules.proofs.ReportLaws.{report-agrees}
use Rattle.rules.specs.Sets.{routines_of}
use Rattle.rules.proofs.SetLaws.{length-routines, routine-at}
use Rattle.rules.specs.Stored.{store, new_state}
use Rattle.machine.specs.Machine.{value, none, fails, Status, going, stopped, stuck, halted, start}
use Rattle.machine.specs.Points.{Access, no_access, access, access_from, AccessInside, Outside}
use Rattle.machine.specs.Soundness.{AccessAllowed}
use Rattle.machine.specs.Frame.{Names}
use Rattle.machine.specs.SetMachine.{Frame, Stack, stack, start_stack, stack_after, next_stack}
use Rattle.machine.specs.SetMachine as sets
use Rattle.machine.specs.SetSound.{SetSetting, StackInvariant, StackSound, AllTrue, stack-kept, stack-sound}
use Rattle.machine.proofs.SetFrame.{StackOrigins, run-stack-framed}
use Rattle.interpreter.specs.AnswerLaws.{never, going_done, going-spent, done-steps, stopped-steps, spent-steps}
use Rattle.interpreter.specs.SafeLaws.{reported-safe, safe-passes}
use Rattle.interpreter.specs.Traces.{ended, stopped-rests, counts, all-counted}
use Rattle.interpreter.specs.SetStepLaws.{StackFacts, stack-facts, stack-rests, stack-counted}
use Rattle.interpreter.specs.Claim.{Lent, Leaves, answer_of, last_number, state_of, running, failing_due, answer_at}
use Rattle.interpreter.specs.Claim.{CallersTrue, AtPoint, EndsAt, Ran}

pub allowed-inside : (D : List ℕ) (n : ℕ) (a : Access) → AccessAllowed D n a → AccessInside D a
allowed-inside D n no_access h = tt
allowed-inside D n (access a o) h = h.inside

-- Of a routine with its own sections and what it declares.
module _ (L : List ℤ) (a : ℕ) where
  abbrev ShownSafe : Routine → Type 0
  ShownSafe r = read_safe store r.environment (statement_at r.table r.sections a)
      (state_before store r.environment L (tree r.table r.sections) new_state a) ≡ true

  routine-safe : (Ts : List (List ℤ)) (n : ℕ) → n < length (routines_of Ts) → safe_at store (routine_at (routines_of Ts) n).table
      (sections_of (routine_at (routines_of Ts) n).table) L a ≡ true → ShownSafe (routine_at (routines_of Ts) n)
  unfolding safe_at
  routine-safe Ts n k =
      subst (λ (r : Routine). safe_at store r.table (sections_of r.table) L a ≡ true → ShownSafe r)
      (sym (routine-at Ts n (omega (arith, k, length-routines Ts)))) (λ x. x)

module _ (Ts : List (List ℤ)) (l : Lent) (L : List ℤ) (setting : SetSetting (routines_of Ts) l.directory (length l.cells) L)
    (begins : StackInvariant (routines_of Ts) l.directory (length l.cells) L
    (start_stack (routines_of Ts) l.directory l.cells l.values l.origins))
    (origins : (v : ℕ) → get_or l.origins v 0 ≤ (routine_at (routines_of Ts) (last_number Ts)).sections.objects) where
  abbrev rs : List Routine
  rs = routines_of Ts

  abbrev D : List ℕ
  D = l.directory

  abbrev last : Routine
  last = routine_at rs (last_number Ts)

  abbrev state : ℕ → Stack
  state t = state_of Ts l t

  abbrev room : ℕ
  room = length l.cells

  abbrev first : Stack
  first = start_stack rs D l.cells l.values l.origins

  right : (t : ℕ) → StackSound rs D room L setting (state t)
  right t = stack-sound rs D room L setting (state t) (stack-kept rs D room L setting t first begins)

  last-known : last_number Ts < length rs
  unfolding start_stack
  last-known = begins.known

  pub unstuck : (t : ℕ) → (state_of Ts l t).point.status ≢ stuck
  unstuck t = (right t).running.has-step

  next : (t : ℕ) → state (t + 1) ≡ next_stack rs D (state t)
  unfolding stack_after
  next t = rw (add-one t)

  -- ---- steps

  abbrev status : Stack → Status
  status K = K.point.status

  abbrev steps : Stack → ℕ
  steps K = K.point.steps

  abbrev due : Stack → Bool
  due K = ltb K.point.due (routine_at rs K.routine).sections.statements

  rests : (t : ℕ) → (status (state t) ≡ going → due (state t) ≡ false) → state (t + 1) ≡ state t
  rests t k = next t ∙ stack-rests rs D (state t) k

  free : (t : ℕ) → (next_stack rs D (state t)).point.status ≢ stuck
  free t z = unstuck (t + 1) (ap status (next t) ∙ z)

  step-counted : (t : ℕ) → status (state t) ≡ going → due (state t) ≡ true → steps (state (t + 1)) ≡ steps (state t) + 1
  step-counted t g q = ap steps (next t) ∙ stack-counted rs D (state t) g (ltb-true _ _ q) (free t)

  facts : (t : ℕ) → status (state t) ≡ going → due (state t) ≡ true → StackFacts (failing_due Ts l t) (state t) (state (t + 1))
  facts t g q = subst (λ (X : Stack). StackFacts (failing_due Ts l t) (state t) X) (sym (next t)) (stack-facts rs D (state t) g (ltb-true _ _ q) (free t))

  none_yet : steps (state 0) ≡ 0
  unfolding stack_after start_stack start
  none_yet = refl

  made : (t : ℕ) → status (state t) ≡ going → due (state t) ≡ true → steps (state t) ≡ t
  made = all-counted state status steps due unstuck rests step-counted none_yet

  stays : (u t : ℕ) → t ≤ u → (status (state t) ≡ going → due (state t) ≡ false) → state u ≡ state t
  stays = ended state status steps due unstuck rests step-counted

  later : (u t : ℕ) → t < u → status (state t) ≡ going → due (state t) ≡ true → steps (state t) < steps (state u)
  later = counts state status steps due unstuck rests step-counted

  stopped-stays : (u t n : ℕ) → t ≤ u → status (state t) ≡ stopped n → state u ≡ state t
  stopped-stays u t n k e = stays u t k (stopped-rests state status steps due unstuck rests step-counted t n e)

  -- ---- the answers

  abbrev h : ℕ → Sections
  h t = (running Ts l t).sections

  abbrev shown : ℕ → Answer
  shown t = answer_at Ts l t

  abbrev answer_in : Stack → Answer
  answer_in K = answer_of (routine_at rs K.routine).sections K.point.status K.point.steps K.point.due

  finished : (limit t : ℕ) → t ≤ limit → status (state t) ≡ going → (shown limit ≡ says.done (steps (state t))) ↔ ((h t).statements ≤ (state t).point.due)
  finished limit t k g = (
    (λ e. by-due e (due (state t)) refl),
    (λ d. ap answer_in (stays limit t k (λ x. le-ltb _ _ d)) ∙ going_done (h t) (status (state t)) (steps (state t)) (state t).point.due g d),
  )
    where
      by-time : shown limit ≡ says.done (steps (state t)) → due (state t) ≡ true → (t ≡ limit) ⊎ (t < limit) → ⊥
      by-time e d (inl q) =
          let f = done-steps (h limit) (status (state limit)) (steps (state limit)) (state limit).point.due (steps (state t)) e in
          let x : due (state limit) ≡ true = ap (λ (n : ℕ). due (state n)) (sym q) ∙ d in
          omega (arith, f.0, ltb-true (state limit).point.due (h limit).statements x)
      by-time e d (inr q) =
          let f = done-steps (h limit) (status (state limit)) (steps (state limit)) (state limit).point.due (steps (state t)) e in
          omega (arith, f.1, later limit t q g d)

      by-due : shown limit ≡ says.done (steps (state t)) → (b : Bool) → due (state t) ≡ b → (h t).statements ≤ (state t).point.due
      by-due e true q = absurd (by-time e q (eq-or-lt_of_le k))
      by-due e false q = ltb-false _ _ q

  spent : (limit t : ℕ) → status (state t) ≡ going → (state t).point.due < (h t).statements
      → (shown limit ≡ says.spent (steps (state t)) (state t).point.due) ↔ (t ≡ limit)
  spent limit t g d = (
    (λ e. let f = spent-steps (h limit) (status (state limit)) (steps (state limit)) (state limit).point.due (steps (state t)) (state t).point.due e in
        omega (arith, f.2, made limit f.0 (lt-ltb _ _ f.1), made t g (lt-ltb _ _ d))),
    (λ e. rw (← e) (going-spent (h t) (status (state t)) (steps (state t)) (state t).point.due g d)),
  )

  module _ (limit t : ℕ) (g : status (state t) ≡ going) (d : (state t).point.due < (h t).statements) (k : t < limit) (n a : ℕ) where
    here : StackFacts (failing_due Ts l t) (state t) (state (t + 1))
    here = facts t g (lt-ltb _ _ d)

    -- The run has stopped with this step.
    at-stop : (j : ℕ) → status (state (t + 1)) ≡ stopped j → shown limit ≡ says.stopped (steps (state t) + 1) (state t).point.due j
    at-stop j s = ap answer_in (stopped-stays limit (t + 1) j (omega arith) s ∙ here.same j s)

    -- The run went on, so that it cannot have stopped with this step.
    went_on : shown limit ≡ says.stopped (steps (state t) + 1) a n → status (state (t + 1)) ≡ going → ⊥
    went_on e s = by-due (due (state (t + 1))) refl
      where
        ends : (status (state limit) ≡ stopped n) × (steps (state limit) ≡ steps (state t) + 1) × ((state limit).point.due ≡ a)
        ends = stopped-steps (h limit) (status (state limit)) (steps (state limit)) (state limit).point.due (steps (state t) + 1) a n (unstuck limit) e

        contrary : status (state limit) ≡ going → ⊥
        contrary x = let q = ends.0 in let z : ◌≡◌ {A = ℕ} 0 1 = cc in omega arith

        by-time : due (state (t + 1)) ≡ true → (t + 1 ≡ limit) ⊎ (t + 1 < limit) → ⊥
        by-time m (inl q) = contrary (ap (λ (i : ℕ). status (state i)) (sym q) ∙ s)
        by-time m (inr q) = omega (arith, ends.1, here.counts s, later limit (t + 1) q s m)

        by-due : (b : Bool) → due (state (t + 1)) ≡ b → ⊥
        by-due true q = by-time q (eq-or-lt_of_le (omega arith))
        by-due false q = contrary (ap status (stays limit (t + 1) (omega arith) (λ x. q)) ∙ s)

    by-status : shown limit ≡ says.stopped (steps (state t) + 1) a n → (s : Status) → status (state (t + 1)) ≡ s
        → (failing_due Ts l t ≡ fails n) × (a ≡ (state t).point.due)
    by-status e going s = absurd (went_on e s)
    by-status e (stopped j) s =
        let q : says.stopped (steps (state t) + 1) a n ≡ says.stopped (steps (state t) + 1) (state t).point.due j = sym e ∙ at-stop j s in
        let i : j ≡ n = cc in
        ((here.stops j).0 s ∙ ap fails i, cc)
    by-status e stuck s = absurd (unstuck (t + 1) s)

    answers-check : (shown limit ≡ says.stopped (steps (state t) + 1) a n) ↔ ((failing_due Ts l t ≡ fails n) × (a ≡ (state t).point.due))
    answers-check = (
      (λ e. by-status e (status (state (t + 1))) refl),
      (λ w. at-stop n ((here.stops n).1 w.0) ∙ ap (λ (x : ℕ). says.stopped (steps (state t) + 1) x n) (sym w.1)),
    )

  -- A stop is a step from a statement that is due.
  stop-same : (t : ℕ) → status (state t) ≡ going → (n : ℕ) → status (state (t + 1)) ≡ stopped n
      → state (t + 1) ≡ stack (state t).callers (state t).routine (halted (state t).point n)
  stop-same t g n e = go (due (state t)) refl
    where
      go : (b : Bool) → due (state t) ≡ b → state (t + 1) ≡ stack (state t).callers (state t).routine (halted (state t).point n)
      go true q = (facts t g q).same n e
      go false q =
          let s : going ≡ stopped n = sym (ap status (rests t (λ x. q)) ∙ g) ∙ e in
          let z : ◌≡◌ {A = ℕ} 0 1 = cc in
          never z

  -- ---- callers and cells

  callers-true : (fs : List Frame) → AllTrue rs D room L setting fs → CallersTrue Ts l fs
  callers-true [] w = tt
  callers-true (F ∷ fs) w = (w.0, callers-true fs w.1)

  -- All objects of the set.
  abbrev Of : ℕ → Type 0
  Of o = o < last.sections.objects

  same_count : (n : ℕ) → n < length rs → (routine_at rs n).sections.objects ≡ last.sections.objects
  same_count n k = setting.objects n (last_number Ts) k last-known

  names : (n : ℕ) → Names (sets.table_of rs D n) (sets.sections_of rs D n) Of
  names n a p o e = go (ltb n (length rs)) refl (read-typed (sets.table_of rs D n) (sets.sections_of rs D n) a (Plain (Address p o)) e).object
    where
      go : (b : Bool) → ltb n (length rs) ≡ b → o < (routine_at rs n).sections.objects → o < last.sections.objects
      go true q x = omega (arith, x, same_count n (ltb-true _ _ q))
      go false q x =
          let z : routine_at rs n ≡ no_routine = get_or-eq_default rs no_routine {n = n} (ltb-false _ _ q) in
          absurd (omega (arith, x, ap (λ (r : Routine). r.sections.objects) z))

  start-origins : StackOrigins D Of first
  unfolding start_stack start
  start-origins = record { running = λ v o e. omega (arith, e, origins v); callers = tt }

  start-cells : first.point.cells ≡ l.cells
  unfolding start_stack start
  start-cells = refl

  untouched : (t i : ℕ) → Outside D (h t).objects i → get_or (state t).point.cells i 0 ≡ get_or l.cells i 0
  untouched t i o =
      (run-stack-framed rs D Of names t first start-origins).elsewhere i
      (λ c. o c.object (omega (arith, c.chosen, same_count (state t).routine (right t).known)) c.above c.below)
      ∙ ap (λ (x : List ℕ). get_or x i 0) start-cells

  -- ---- point 9

  listed : (t : ℕ) (c : Condition) (n : ℕ) → statement_at (running Ts l t).table (running Ts l t).sections (state t).point.due ≡ Some (While c n)
      → EntriesHold (entries_of L (state t).point.due) (value (state t).point.values)
  listed t c n e =
      let T = (running Ts l t).table in
      let w = (setting.formed (state t).routine (right t).known).formed.limits in
      entries-mean T (h t) w (entries_of L (state t).point.due) (value (state t).point.values)
      (entries-right T (h t) w L (setting.listed (state t).routine (right t).known) (state t).point.due) ((right t).running.listed c n e)

  reported : (t : ℕ) (d : Decider) → DecidesTable (running Ts l t).table d
      → reported_at (by_chains d) (running Ts l t).table L (state t).point.due ≡ true → failing_due Ts l t ≡ none
  reported t d c r =
      let T = (running Ts l t).table in
      let a = reported-safe T L (state t).point.due (report-agrees T L d c (state t).point.due ∙ r) in
      safe-passes T (h t) (running Ts l t).environment L D room (state t).point (right t).running _ refl
      (routine-safe L (state t).point.due Ts (state t).routine
      (right t).known a)

  -- ---- every state

  at-point : (limit t : ℕ) (a : Answer) → a ≡ shown limit → t ≤ limit → AtPoint Ts l L limit a t
  at-point limit t a e k = rw e (record {
    bounds = (right t).running.bounds;
    callers = callers-true (state t).callers (right t).callers;
    accesses = λ s b. allowed-inside D (length (state s).point.cells)
        (access_from (running Ts l s).table (running Ts l s).sections (running Ts l s).environment (state s).point.status (state s).point)
        (right s).running.access-allowed;
    untouched = untouched t;
    last-zero = (right t).running.last-zero;
    listed = listed t;
    reported = reported t;
    has-step = unstuck t;
    counted = λ d. made t d.0 (lt-ltb _ _ d.1);
    frames = (right t).frames;
    finished = finished limit t k;
    spent = λ d. spent limit t d.0 d.1;
    stops = λ d n. (facts t d.0 (lt-ltb _ _ d.1)).stops n;
    answers-check = λ d m n s. answers-check limit t d.0 d.1 m n s;
    stop-changes-nothing = stop-same t;
    goes_on = λ d f. let p = facts t d.0 (lt-ltb _ _ d.1) in (p.goes f, p.counts (p.goes f));
  })

  -- A RUN THAT ENDS WHERE THE SET'S MACHINE ENDS IS AS CLAIMED, at every point.
  pub ends-ran : (limit : ℕ) (m : Leaves) → EndsAt Ts l limit m → Ran Ts l L limit m
  ends-ran limit m e = record { ends = e; every-point = λ t k. at-point limit t (reads m.answer) e.answer k }
