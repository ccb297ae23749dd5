-- Laws of a level of the interpreter of a set: how it begins, what its stretches ask and leave, a call, a return.
use Rattle.std.specs.Prelude.{ℕ, ◌+◌, ◌-◌, ◌*◌, ◌^◌, ◌≤◌, ◌<◌, ◌⊎◌, Bool, cond, List, [], leb, ltb, ℤ, length, get_or, drop, Some}
use Rattle.std.proofs.Math.Path.{◌≡◌, refl, ap}
use Rattle.std.proofs.Common.{sym, ap₂, subst, ◌∙◌, ⊎_elim, length-take, length-drop}
use Rattle.std.proofs.Math.Bool.{true, false}
use native.Mathlib.Omega.{arith}
use borrow.Author.Tests.{lt-ltb, ltb-true, ltb-false, leb-true}
use Rattle.words.specs.SectionsLaws.{both, limits}
use Rattle.words.specs.Sections.{Limits, in_limits, statement_start}
use Rattle.words.specs.declared.sections.Sections.{Sections}
use Rattle.statements.specs.Statements.{statement_at}
use Rattle.statements.specs.Decode.{decoded_at, decoded_call_at}
use Rattle.statements.specs.DecodeLaws.{read-decoded, call-decoded}
use Rattle.statements.specs.declared.CallSite.{CallSite}
use Rattle.statements.specs.declared.Statement.TheVariants.{Call}
use Rattle.table.specs.Form as form
use Rattle.table.specs.FormLaws.{formed-head, head-limits}
use Rattle.rules.specs.Calls.{Routine, routine_at}
use Rattle.rules.specs.Sets.{member_of, routine_of, routines_of, count_right}
use Rattle.rules.proofs.SetLaws.{routine-at, member-formed}
use Rattle.rules.specs.Verdict as verdict
use Rattle.rules.specs.declared.Environment.{Environment}
use Rattle.machine.specs.Machine.{Status, going, stopped, stuck, Point}
use Rattle.machine.specs.SetMachine.{Frame, stack, settled, stack_after, table_of, sections_of, environment_of}
use Rattle.machine.specs.SetSound.{StackInvariant}
use Rattle.answers.specs.declared.stops.Outcome.{Outcome}
use Rattle.answers.specs.declared.stops.Outcome.TheVariants.{Done, Spent, Stopped}
use Rattle.checks.specs.Checked.{check_of, size_in, Named}
use Rattle.interpreter.specs.Slots.{Laid}
use Rattle.interpreter.specs.SlotsLaws.{slots-long}
use Rattle.entry.specs.Ends.{ends_of}
use Rattle.interpreter.specs.BareRun.{BareResult, bare_run}
use Rattle.interpreter.specs.EndsLaws.{ends-long, ends-small, ends_named, ends-sizes}
use Rattle.interpreter.specs.Outcomes.{outcome_shown}
use Rattle.parts.specs.Parts.{window}
use Rattle.sets.specs.Tables.{tables_in}
use Rattle.sets.specs.TableLaws.{length-tables}
use Rattle.set_runs.specs.Lent.{read_in, sections_in, room_of, flow_of, halts, pause_of}
use Rattle.set_runs.specs.LentLaws.{decoded-same, ends_same, sections-are, words_are, statements-inside}
use Rattle.set_runs.specs.Levels.{final, HasReturned, HasHalted, Leaves, Callable, MayRun, RanOn, Along}
use Rattle.set_runs.specs.StackLaws.{later, stays, settled-due, settled-stopped, rests-stopped}
use Rattle.set_runs.specs.StretchLaws.{sound-here, stretch, stretch-safe}
use Rattle.set_runs.specs.declared.Level.{Level}
use Rattle.set_runs.specs.declared.Level.TheVariants.{Returns, Halts}
use Rattle.set_runs.specs.declared.levels.Pause.TheVariants as pause

never : {A : Type 0} → ◌≡◌ {A = ℕ} 0 1 → A
never z = absurd (omega arith)

module _ {W : List ℤ} {L D S : List ℕ} {room : ℕ} (C : Callable W L D S room) (n : ℕ) (known : n < length L) where
  abbrev rs : List Routine
  rs = routines_of (tables_in W L)

  abbrev X : List ℤ
  X = read_in W L n

  abbrev h : Sections
  h = sections_of rs D n

  abbrev E : Environment
  E = environment_of rs D n

  abbrev M : List ℤ
  M = member_of (tables_in W L) n

  -- ---- the routine

  in_tables : n < length (tables_in W L)
  in_tables = omega (arith, length-tables W L)

  routine-is : routine_at rs n ≡ routine_of M
  routine-is = routine-at (tables_in W L) n in_tables

  pub few : n < 8
  unfolding count_right
  few = omega (
    arith,
    leb-true (length (tables_in W L)) 8 (both (leb 1 (length (tables_in W L))) (leb (length (tables_in W L)) 8) C.accepted.count).1,
    in_tables,
  )

  pub sections-here : sections_in W L n ≡ h
  sections-here = sections-are W L C.accepted n known ∙ sym (ap (λ (r : Routine). r.sections) routine-is)

  within-limits : in_limits h ≡ true
  within-limits =
      ap (λ (r : Routine). in_limits r.sections) routine-is
      ∙ head-limits M (formed-head M (form.sections_of M) (member-formed (tables_in W L) n (C.accepted.each n in_tables)))

  pub limits-here : Limits h
  limits-here = limits h within-limits

  table_is : table_of rs D n ≡ M
  table_is = ap (λ (r : Routine). r.table) routine-is

  environment-is : E ≡ verdict.environment_of M h
  environment-is =
      ap (λ (r : Routine). r.environment) routine-is ∙ ap (verdict.environment_of M) (sym (ap (λ (r : Routine). r.sections) routine-is))

  within-here : in_limits (sections_in W L n) ≡ true
  within-here = ap in_limits sections-here ∙ within-limits

  pub decodes : (a : ℕ) → decoded_at X h a ≡ decoded_at (table_of rs D n) h a
  decodes a =
      ap (λ (k : Sections). decoded_at X k a) (sym sections-here)
      ∙ (decoded-same X M (sections_in W L n) within-here (words_are W L C.accepted n known) a
      ∙ (ap (λ (k : Sections). decoded_at M k a) sections-here ∙ ap (λ (T : List ℤ). decoded_at T h a) (sym table_is)))

  pub ends-are : (R : List ℕ) → ends_of (verdict.environment_of X (sections_in W L n)) R ≡ ends_of E R
  ends-are R =
      ends_same X M (sections_in W L n) within-here (words_are W L C.accepted n known) R
      ∙ (ap (λ (k : Sections). ends_of (verdict.environment_of M k) R) sections-here ∙ ap (λ (F : Environment). ends_of F R) (sym environment-is))

  -- ---- what a stretch asks

  module _ {limit at steps : ℕ} {gs : List Frame} {P : Point} {ends vs cs : List ℕ} (A : Along W L D S n room limit gs P at steps ends vs cs) where
    laid : Laid X h (room_of ends n) D (flow_of S n) vs
    laid =
        let e = A.in-force in
        let s = sound-here rs D room C.setting gs n A.point A.stands in
        let inside : statement_start h h.statements ≤ length X =
        subst (λ (k : Sections). statement_start k k.statements ≤ length X) sections-here (statements-inside W L C.accepted n known) in
        let l : length (ends_of E A.point.rows) ≡ 512 = ends-long E A.point.rows in
        let small : (i : ℕ) → get_or (ends_of E A.point.rows) i 0 < 2 ^ 34 =
        subst (λ (F : Environment). (i : ℕ) → get_or (ends_of F A.point.rows) i 0 < 2 ^ 34) (sym environment-is)
        (ends-small M h limits-here A.point.rows) in
        let sizes : (p : ℕ) → size_in (ends_of E A.point.rows) p ≤ 8 =
        subst (λ (F : Environment). (p : ℕ) → size_in (ends_of F A.point.rows) p ≤ 8) (sym environment-is) (ends-sizes M h A.point.rows) in
        let named : Named (ends_of E A.point.rows) =
        subst (λ (F : Environment). Named (ends_of F A.point.rows)) (sym environment-is) (ends_named M h limits-here A.point.rows) in
        rw e (record {
          prepared = record {
            table = inside;
            ends = l;
            small = small;
            sizes = sizes;
            named = named;
            directory = omega (arith, (C.setting.setting n A.stands.invariant.known).pairs);
            successors = omega (arith, limits-here.statements, length-take 2048 (drop (2048 * n) S), length-drop (2048 * n) S, C.flow-long, few);
            slots = slots-long vs;
          };
          enough = omega (arith, ap length A.values, s.values-long);
          few = omega (arith, ap length A.values, s.values-long, limits-here.variables);
        })

    pub may-run : 512 * n + 512 ≤ length ends → MayRun W L D S n limit at steps ends vs cs
    may-run fits =
        let safe = stretch-safe rs D room C.setting n X (flow_of S n) decodes (C.flows n known) (limit - steps) gs (room_of ends n) A.point A.stands
        A.in-force in
        record {
          few = few;
          room = fits;
          flow-long = C.flow-long;
          laid = rw sections-here laid;
          within = A.within;
          safe = rw sections-here (rw (A.due, A.values, A.cells) at safe);
        }

  -- ---- what a stretch leaves

  -- The routine stands at the point, where the stretch has ended with the outcome o.
  pub record Paused (limit : ℕ) (gs : List Frame) (P : Point) (o : Outcome) (ends vs cs : List ℕ) : Type 0 where
    pub point : Point
    pub origins : (p : ℕ) → get_or point.origins p 0 ≤ h.objects
    pub invariant : StackInvariant rs D room [] (stack gs n point)
    pub outcome : o ≡ outcome_shown h point.status point.steps point.due
    pub numbered : (k : ℕ) → point.status ≡ stopped k → (1 ≤ k) × (k ≤ 6)
    pub in-force : room_of ends n ≡ ends_of E point.rows
    pub values : vs ≡ point.values
    pub cells : cs ≡ point.cells
    pub grows : P.steps ≤ point.steps
    pub within : point.steps ≤ limit
    pub ahead : final rs D room limit gs n P ≡ final rs D room limit gs n point
    pub call : point.status ≡ going → point.due < h.statements → point.steps < limit
        → (c : CallSite) × (statement_at (table_of rs D n) h point.due ≡ Some (Call c))

  pub paused : {limit at steps : ℕ} {gs : List Frame} {P : Point} {ends vs cs : List ℕ} {o : Outcome} {ends' vs' cs' : List ℕ}
      → Along W L D S n room limit gs P at steps ends vs cs → RanOn W L D S n limit at steps ends vs cs o ends' vs' cs' → Paused limit gs P o ends' vs' cs'
  paused {limit} {at} {steps} {gs} {P} {ends} {vs} {cs} {o} {ends'} {vs'} {cs'} A r =
      let s = stretch rs D room C.setting n X (flow_of S n) decodes (C.flows n known) (limit - steps) gs (room_of ends n) A.point A.stands
      A.in-force in
      let e : bare_run X (sections_in W L n) (room_of ends n) D (flow_of S n) (limit - steps) steps at vs cs
      ≡ bare_run X h (room_of ends n) D (flow_of S n) (limit - steps) A.point.steps A.point.due A.point.values A.point.cells
      = rw (sections-here, A.due, A.counted, A.values, A.cells) refl in
      let shown = e ∙ s.shown in
      let here : window (512 * n) 512 ends' ≡ r.then-ends = rw r.counted at r.kept.here in
      let left : s.left ≡ limit - s.point.steps = omega (arith, s.counted, s.less, A.counted, A.within) in
      let before : limit - steps ≡ limit - A.point.steps = omega (arith, A.counted) in
      record {
        point = s.point;
        origins = s.origins;
        invariant = s.invariant;
        outcome = r.run.outcome ∙ ap (λ (x : BareResult). x.outcome) shown;
        numbered = s.numbered;
        in-force = here ∙ (r.run.ends ∙ ap (λ (x : BareResult). x.ends) shown);
        values = r.run.values ∙ ap (λ (x : BareResult). x.values) shown;
        cells = r.run.cells ∙ ap (λ (x : BareResult). x.cells) shown;
        grows = omega (arith, A.grows, A.counted, s.counted, s.less);
        within = omega (arith, s.counted, s.less, A.counted, A.within);
        ahead =
            A.ahead
            ∙ (ap (λ (t : ℕ). stack_after rs D t (settled rs D gs n A.point)) (sym before)
            ∙ (s.ahead ∙ ap (λ (t : ℕ). stack_after rs D t (settled rs D gs n s.point)) left));
        call = λ g d l. ⊎_elim (λ (z : s.left ≡ 0). absurd (omega (arith, z, left, l)))
            (λ (x : (c : CallSite) × (statement_at (table_of rs D n) h s.point.due ≡ Some (Call c))). x) (s.paused g d);
      }

  pub paused-later : {limit at steps : ℕ} {gs : List Frame} {P : Point} {ends vs cs : List ℕ} {o : Outcome} {ends' vs' cs' : List ℕ}
      (A : Along W L D S n room limit gs P at steps ends vs cs) (r : RanOn W L D S n limit at steps ends vs cs o ends' vs' cs')
      → steps ≤ (paused A r).point.steps
  unfolding paused
  paused-later {limit} {at} {steps} {gs} {P} {ends} A r =
      let s = stretch rs D room C.setting n X (flow_of S n) decodes (C.flows n known) (limit - steps) gs (room_of ends n) A.point A.stands
      A.in-force in
      let later : steps ≤ s.point.steps = omega (arith, s.counted, s.less, A.counted) in
      later

  module _ {limit : ℕ} {gs : List Frame} {P : Point} {o : Outcome} {ends vs cs : List ℕ} (q : Paused limit gs P o ends vs cs) where
    abbrev Q : Point
    Q = q.point

    -- ---- the level ends

    halted : final rs D room limit gs n Q ≡ stack gs n Q
        → HasHalted rs D room limit gs n P (record { outcome = outcome_shown h Q.status Q.steps Q.due; routine = n }) vs cs
    halted e = record { above = []; point = Q; state = q.ahead ∙ e; outcome = refl; numbered = q.numbered; values = q.values; cells = q.cells }

    returned : Q.status ≡ going → h.statements ≤ Q.due → HasReturned rs D room limit gs n P Q.steps vs cs
    returned g d = record {
      point = Q;
      stands = record { goes = g; origins = q.origins; invariant = q.invariant };
      ended = d;
      steps = refl;
      values = sym q.values;
      cells = sym q.cells;
      grows = q.grows;
      within = q.within;
      ahead = q.ahead;
    }

    stopped-state : (k : ℕ) → Q.status ≡ stopped k → final rs D room limit gs n Q ≡ stack gs n Q
    stopped-state k g =
        ap (stack_after rs D (limit - Q.steps)) (settled-stopped rs D gs n Q k g) ∙ stays rs D (stack gs n Q) (rests-stopped rs D gs n Q k g) (limit - Q.steps)

    spent-state : limit ≤ Q.steps → Q.due < h.statements → final rs D room limit gs n Q ≡ stack gs n Q
    unfolding stack_after
    spent-state l d =
        let z : limit - Q.steps ≡ 0 = omega arith in
        ap (λ (t : ℕ). stack_after rs D t (settled rs D gs n Q)) z ∙ settled-due rs D gs n Q d

    -- What the level answers, by the point's status.
    level-is : (a b : Level) → pause.Leaves a ≡ pause.Leaves b → Leaves rs D room limit gs n P a vs cs → Leaves rs D room limit gs n P b vs cs
    level-is a b e x = let f : a ≡ b = cc in subst (λ (y : Level). Leaves rs D room limit gs n P y vs cs) f x

    halts-as : (w : Outcome) → outcome_shown h Q.status Q.steps Q.due ≡ w → final rs D room limit gs n Q ≡ stack gs n Q
        → HasHalted rs D room limit gs n P (record { outcome = w; routine = n }) vs cs
    halts-as w e x = subst (λ (y : Outcome). HasHalted rs D room limit gs n P (record { outcome = y; routine = n }) vs cs) e (halted x)

    leaves-spent : (b : Bool) → ltb Q.steps limit ≡ b → Q.status ≡ going → Q.due < h.statements → (level : Level)
        → cond b (pause.Calls Q.steps Q.due) (halts (Spent Q.steps Q.due) n) ≡ pause.Leaves level → Leaves rs D room limit gs n P level vs cs
    leaves-spent true t g d level e = let z : ◌≡◌ {A = ℕ} 0 1 = cc in never z
    leaves-spent false t g d level e =
        level-is (Halts (record { outcome = Spent Q.steps Q.due; routine = n })) level e
        (halts-as (Spent Q.steps Q.due)
        (ap (λ (x : Status). outcome_shown h x Q.steps Q.due) g
        ∙ ap (λ (x : Bool). cond x (Spent Q.steps Q.due) (Done Q.steps)) (lt-ltb Q.due h.statements d))
        (spent-state (ltb-false Q.steps limit t) d))

    leaves-going : (b : Bool) → ltb Q.due h.statements ≡ b → Q.status ≡ going → (level : Level)
        → pause_of limit n (cond b (Spent Q.steps Q.due) (Done Q.steps)) ≡ pause.Leaves level → Leaves rs D room limit gs n P level vs cs
    unfolding pause_of
    leaves-going true t g level e = leaves-spent (ltb Q.steps limit) refl g (ltb-true Q.due h.statements t) level e
    leaves-going false t g level e = level-is (Returns Q.steps) level e (returned g (ltb-false Q.due h.statements t))

    leaves-status : (s : Status) → Q.status ≡ s → (level : Level) → pause_of limit n (outcome_shown h s Q.steps Q.due) ≡ pause.Leaves level
        → Leaves rs D room limit gs n P level vs cs
    unfolding pause_of
    leaves-status going g level e = leaves-going (ltb Q.due h.statements) refl g level e
    leaves-status (stopped k) g level e =
        level-is (Halts (record { outcome = Stopped Q.steps (check_of k Q.due); routine = n })) level e
        (halts-as (Stopped Q.steps (check_of k Q.due)) (ap (λ (x : Status). outcome_shown h x Q.steps Q.due) g) (stopped-state k g))
    leaves-status stuck g level e = absurd (q.invariant.running.has-step g)

    -- The level ends.
    pub level-leaves : (level : Level) → pause_of limit n o ≡ pause.Leaves level → Leaves rs D room limit gs n P level vs cs
    level-leaves level e = leaves-status Q.status refl level (ap (pause_of limit n) (sym q.outcome) ∙ e)

    -- ---- a call is due

    pub record AtCall (s a : ℕ) : Type 0 where
      pub goes : Q.status ≡ going
      pub within : Q.due < h.statements
      pub steps : Q.steps ≡ s
      pub due : Q.due ≡ a
      pub left : s < limit
      pub reads : statement_at (table_of rs D n) h Q.due ≡ Some (Call (decoded_call_at X (sections_in W L n) a))

    site-read : (a : ℕ) → Q.due ≡ a → (c : CallSite) → statement_at (table_of rs D n) h Q.due ≡ Some (Call c)
        → c ≡ decoded_call_at X (sections_in W L n) a
    site-read a e c r =
        sym (call-decoded X h Q.due c (decodes Q.due ∙ read-decoded (table_of rs D n) h Q.due (Call c) r))
        ∙ ap₂ (λ (k : Sections) (x : ℕ). decoded_call_at X k x) (sym sections-here) e

    called-spent : (b : Bool) → ltb Q.steps limit ≡ b → Q.status ≡ going → Q.due < h.statements → (s a : ℕ)
        → cond b (pause.Calls Q.steps Q.due) (halts (Spent Q.steps Q.due) n) ≡ pause.Calls s a → AtCall s a
    called-spent true t g d s a e =
        let l : Q.steps < limit = ltb-true Q.steps limit t in
        let r = q.call g d l in
        let x : Q.steps ≡ s = cc in
        let y : Q.due ≡ a = cc in
        record {
          goes = g;
          within = d;
          steps = x;
          due = y;
          left = omega (arith, l, x);
          reads = r.1 ∙ ap (λ (c : CallSite). Some (Call c)) (site-read a y r.0 r.1);
        }
    called-spent false t g d s a e = let z : ◌≡◌ {A = ℕ} 0 1 = cc in never z

    called-going : (b : Bool) → ltb Q.due h.statements ≡ b → Q.status ≡ going → (s a : ℕ)
        → pause_of limit n (cond b (Spent Q.steps Q.due) (Done Q.steps)) ≡ pause.Calls s a → AtCall s a
    unfolding pause_of
    called-going true t g s a e = called-spent (ltb Q.steps limit) refl g (ltb-true Q.due h.statements t) s a e
    called-going false t g s a e = let z : ◌≡◌ {A = ℕ} 0 1 = cc in never z

    called-status : (x : Status) → Q.status ≡ x → (s a : ℕ) → pause_of limit n (outcome_shown h x Q.steps Q.due) ≡ pause.Calls s a → AtCall s a
    unfolding pause_of
    called-status going g s a e = called-going (ltb Q.due h.statements) refl g s a e
    called-status (stopped k) g s a e = let z : ◌≡◌ {A = ℕ} 0 1 = cc in never z
    called-status stuck g s a e = absurd (q.invariant.running.has-step g)

    pub at_call : {s a : ℕ} → pause_of limit n o ≡ pause.Calls s a → AtCall s a
    at_call {s} {a} e = called-status Q.status refl s a (ap (pause_of limit n) (sym q.outcome) ∙ e)
