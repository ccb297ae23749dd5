-- A stretch of steps of one routine of a set, up to a call, a stop, its table's end or the limit: the run without origins agrees with the machine of the set.
use Prim.Native.Nat.{ℕ, zero, suc, ◌+◌, ◌≤◌, ◌<◌}
use Rattle.std.proofs.Math.Path.{◌≡◌, refl, sym, ap, subst}
use Rattle.std.proofs.Common.{ap₂, ◌∙◌, arith}
use Rattle.std.specs.Prelude.{Bool, false, cond, List, [], ◌⊎◌, ltb, ℤ, length, get_or, Option, Some}
use Rattle.std.proofs.Math.Bool.{true}
use Rattle.std.proofs.Math.Logic.{inl, inr}
use borrow.Author.Tests.{lt-ltb, ltb-true, ltb-false}
use Rattle.words.specs.declared.sections.Sections.{Sections}
use Rattle.statements.specs.Statements.{statement_at}
use Rattle.statements.specs.StatementLaws.{read-typed, read-limits}
use Rattle.statements.specs.declared.CallSite.{CallSite}
use Rattle.statements.specs.declared.Statement.{Statement}
use Rattle.statements.specs.declared.Statement.TheVariants.{Plain, If, While, Bundle, Call}
use Rattle.statements.specs.Decode.{decoded_at}
use Rattle.statements.specs.DecodeLaws.{read-decoded}
use Rattle.blocks.specs.Flow.{Successors, successors, table_flow}
use Rattle.blocks.specs.Shape.{entries_at}
use Rattle.blocks.specs.SuccessorLaws.{bounded_at, flow-bounded, flow-long}
use Rattle.rules.specs.Calls.{Routine}
use Rattle.rules.specs.Sets.{before}
use Rattle.rules.specs.declared.Environment.{Environment}
use Rattle.machine.specs.Machine.{high, Status, going, stopped, stuck, Point, successors_of, statement_step, next_point}
use Rattle.machine.specs.AlonePoints.{point_after}
use Rattle.machine.specs.Soundness.{Sound}
use Rattle.machine.specs.RunSound.{Invariant}
use Rattle.machine.specs.SetMachine.{Frame, stack, settled, stack_after, table_of, sections_of, environment_of}
use Rattle.machine.specs.SetSound.{SetSetting, StackInvariant, next-kept, stack-sound}
use Rattle.steps.specs.Bare.{Move, statement_move, bare_move, Inside, Marked, Ready}
use Rattle.entry.specs.Ends.{ends_of}
use Rattle.answers.specs.declared.stops.Outcome.TheVariants.{Done, Stopped}
use Rattle.checks.specs.Checked.{check_of}
use Rattle.interpreter.specs.BareRun.{BareResult, result, follow, bare_run, Onward, SafeRun}
use Rattle.interpreter.specs.Agreement.{step_shown, result_shown}
use Rattle.interpreter.specs.AgreementLaws.{Stepped, stepped, inside, if-true, spent-or-done, shown-going, shown-stopped}
use Rattle.interpreter.specs.NumberLaws.{stopped-number}
use Rattle.interpreter.specs.StepLaws.{next-going}
use Rattle.set_runs.specs.StackLaws.{later, settled-due, next-own}
use Rattle.set_runs.specs.Levels.{Stands}

-- A statement is a call, or none.
data Kind (s : Statement) : Type 0 where
  a_call : (c : CallSite) → s ≡ Call c → Kind s
  no_call : ((c : CallSite) → s ≡ Call c → ⊥) → Kind s

kind-of : (s : Statement) → Kind s
kind-of (Call c) = a_call c refl
kind-of (Plain x) = no_call (λ c e. let z : ◌≡◌ {A = ℕ} 0 1 = cc in omega arith)
kind-of (If c x y) = no_call (λ d e. let z : ◌≡◌ {A = ℕ} 0 1 = cc in omega arith)
kind-of (While c x) = no_call (λ d e. let z : ◌≡◌ {A = ℕ} 0 1 = cc in omega arith)
kind-of (Bundle x) = no_call (λ c e. let z : ◌≡◌ {A = ℕ} 0 1 = cc in omega arith)

other-read : (x : Option Statement) (t : Statement) → x ≡ Some t → ((c : CallSite) → t ≡ Call c → ⊥) → (c : CallSite) → x ≡ Some (Call c) → ⊥
other-read x t e k c q = k c (inner t (Call c) (sym e ∙ q))
  where
    inner : (x y : Statement) → Some x ≡ Some y → x ≡ y
    inner x y e = cc

module _ (rs : List Routine) (D : List ℕ) (room : ℕ) (S : SetSetting rs D room []) where
  abbrev T : ℕ → List ℤ
  T n = table_of rs D n

  abbrev h : ℕ → Sections
  h n = sections_of rs D n

  abbrev E : ℕ → Environment
  E n = environment_of rs D n

  -- ---- what is known where routine n stands

  module _ (gs : List Frame) (n : ℕ) (P : Point) (A : Stands rs D room gs n P) where
    known : n < length rs
    known = A.invariant.known

    pub sound-here : Sound (T n) (h n) (E n) D room [] P
    sound-here = (stack-sound rs D room [] S (stack gs n P) A.invariant).running

    pub reads_here : (a : ℕ) → a < (h n).statements → (s : Statement) × (statement_at (T n) (h n) a ≡ Some s)
    reads_here a l = (S.formed n known).formed.statements a l

    object-inside : (o : ℕ) → o < (h n).objects → high D o ≤ length P.cells
    object-inside o l = omega (arith, ((S.setting n known).placed o l).inside, sound-here.cells-long)

  -- The run has the table X, which is decoded as the member's.
  module _ (n : ℕ) (X : List ℤ) (F : List ℕ) (same : (a : ℕ) → decoded_at X (h n) a ≡ decoded_at (T n) (h n) a)
      (flow : (a : ℕ) → a < (h n).statements → entries_at F a ≡ successors_of (T n) (h n) (E n) D a) where
    abbrev after : Point → Point
    after P = next_point (T n) (h n) (E n) D P.status P

    -- ---- one step

    module _ (gs : List Frame) (W : List ℕ) (P : Point) (A : Stands rs D room gs n P) (ends : W ≡ ends_of (E n) P.rows) (due : P.due < (h n).statements)
        (s : Statement) (read : statement_at (T n) (h n) P.due ≡ Some s) where
      abbrev next : Successors
      next = entries_at F P.due

      after_is : after P ≡ statement_step (E n) D (Some s) next P
      after_is =
          ap (λ (x : Status). next_point (T n) (h n) (E n) D x P) A.goes
          ∙ (next-going (T n) (h n) (E n) D P due
          ∙ ap₂ (λ (r : Option Statement) (m : Successors). statement_step (E n) D r m P) read (sym (flow P.due due)))

      move-is : bare_move X (h n) W D F P.due P.values P.cells ≡ statement_move W D s P.due next P.values P.cells
      unfolding bare_move
      move-is =
          ap (λ (x : Statement). statement_move W D x P.due next P.values P.cells) (same P.due ∙ read-decoded (T n) (h n) P.due s read)

      -- Where the statement is no call.
      module _ (other : (c : CallSite) → statement_at (T n) (h n) P.due ≡ Some (Call c) → ⊥) where
        kept : Invariant (T n) (h n) (E n) D room [] (after P)
        kept = next-kept (T n) (h n) (E n) D room (S.setting n A.invariant.known) [] (before n rs) (S.walked n A.invariant.known) P
            A.invariant.running other P.status

        free : (statement_step (E n) D (Some s) next P).status ≡ stuck → ⊥
        free e = kept.has-step (ap (λ (Q : Point). Q.status) after_is ∙ e)

        step-stepped : Stepped (E n) P (after P) (h n).objects (bare_move X (h n) W D F P.due P.values P.cells)
        step-stepped =
            rw (move-is, after_is)
            (stepped (T n) (h n) (E n) D W F P s next ends (sound-here gs n P A).rows_long (read-limits (T n) (h n) P.due s read).0
            (read-typed (T n) (h n) P.due s read) A.origins free)

        step-stands : (after P).status ≡ going → Stands rs D room gs n (after P)
        step-stands g = record {
          goes = g;
          origins = step-stepped.origins;
          invariant = record { known = A.invariant.known; running = kept; waits = A.invariant.waits };
        }

        step-ahead : (l : ℕ) → stack_after rs D (suc l) (settled rs D gs n P) ≡ stack_after rs D l (settled rs D gs n (after P))
        step-ahead l =
            ap (stack_after rs D (suc l)) (settled-due rs D gs n P due)
            ∙ (later rs D l (stack gs n P) ∙ ap (stack_after rs D l) (next-own rs D gs n P A.goes due other))

        step-inside : Inside W s P.values P.cells
        step-inside =
            inside (T n) (h n) (E n) D W F P A.origins (object-inside gs n P A) s next ends (read-limits (T n) (h n) P.due s read).0
            (read-typed (T n) (h n) P.due s read) free

    -- ---- a stretch

    -- Where a stretch of at most l steps from P ends, with `left` of them left: o is what the run without origins gives.
    pub record Stretch (l : ℕ) (gs : List Frame) (P : Point) (o : BareResult) : Type 0 where
      pub point : Point
      pub left : ℕ
      pub origins : (p : ℕ) → get_or point.origins p 0 ≤ (h n).objects
      pub invariant : StackInvariant rs D room [] (stack gs n point)
      pub shown : o ≡ result_shown (E n) (h n) point
      pub numbered : (k : ℕ) → point.status ≡ stopped k → (1 ≤ k) × (k ≤ 6)
      pub less : left ≤ l
      pub counted : point.steps + left ≡ P.steps + l
      pub ahead : stack_after rs D l (settled rs D gs n P) ≡ stack_after rs D left (settled rs D gs n point)
      -- it is given up before the limit only where a call is due
      pub paused : point.status ≡ going → point.due < (h n).statements → (left ≡ 0) ⊎ ((c : CallSite) × (statement_at (T n) (h n) point.due ≡ Some (Call c)))

    -- A stretch that ends where it begins.
    stays_here : (l : ℕ) (gs : List Frame) (P : Point) (o : BareResult) → Stands rs D room gs n P → o ≡ result_shown (E n) (h n) P
        → (P.due < (h n).statements → (l ≡ 0) ⊎ ((c : CallSite) × (statement_at (T n) (h n) P.due ≡ Some (Call c)))) → Stretch l gs P o
    stays_here l gs P o A e p = record {
      point = P;
      left = l;
      origins = A.origins;
      invariant = A.invariant;
      shown = e;
      numbered = λ k g. let z : going ≡ stopped k = sym A.goes ∙ g in let y : ◌≡◌ {A = ℕ} 0 1 = cc in absurd (omega arith);
      less = omega arith;
      counted = refl;
      ahead = refl;
      paused = λ g d. p d;
    }

    -- What follows a move from P.
    abbrev goes_on : ℕ → Point → Move → BareResult
    goes_on l P m =
        follow m.said (λ b. bare_run X (h n) m.ends D F l (P.steps + 1) b m.values m.cells) P.steps P.due m.ends m.values m.cells

    module _ (l : ℕ) (gs : List Frame) (W : List ℕ) (P : Point) (A : Stands rs D room gs n P) (ends : W ≡ ends_of (E n) P.rows)
        (due : P.due < (h n).statements)
        (s : Statement) (read : statement_at (T n) (h n) P.due ≡ Some s) where
      -- A call is due.
      call-here : (c : CallSite) → s ≡ Call c → Stretch (suc l) gs P (goes_on l P (bare_move X (h n) W D F P.due P.values P.cells))
      unfolding statement_move
      call-here c e =
          stays_here (suc l) gs P _ A
          (ap (goes_on l P) (move-is gs W P A ends due s read
          ∙ ap (λ (x : Statement). statement_move W D x P.due (entries_at F P.due) P.values P.cells) e)
          ∙ rw ends (shown-going X (h n) (E n) D F P true A.goes (lt-ltb _ _ due)))
          (λ d. inr (c, read ∙ ap Some e))

      module _ (other : (c : CallSite) → statement_at (T n) (h n) P.due ≡ Some (Call c) → ⊥)
          (rest : (Q : Point) → Stands rs D room gs n Q
          → Stretch l gs Q (bare_run X (h n) (ends_of (E n) Q.rows) D F l Q.steps Q.due Q.values Q.cells)) where
        abbrev Q : Point
        Q = after P

        counted-here : Q.steps ≡ P.steps + 1
        counted-here = (step-stepped gs W P A ends due s read other).counted

        -- The routine goes on,
        goes-here : Q.status ≡ going → Stretch (suc l) gs P (bare_run X (h n) (ends_of (E n) Q.rows) D F l (P.steps + 1) Q.due Q.values Q.cells)
        goes-here g =
            let r = rest Q (step-stands gs W P A ends due s read other g) in
            record {
              point = r.point;
              left = r.left;
              origins = r.origins;
              invariant = r.invariant;
              shown = ap (λ (j : ℕ). bare_run X (h n) (ends_of (E n) Q.rows) D F l j Q.due Q.values Q.cells) (sym counted-here) ∙ r.shown;
              numbered = r.numbered;
              less = omega (arith, r.less);
              counted = omega (arith, r.counted, counted-here);
              ahead = step-ahead gs W P A ends due s read other l ∙ r.ahead;
              paused = r.paused;
            }

        -- or a check stops it.
        stops-here : (k : ℕ) → Q.status ≡ stopped k
            → Stretch (suc l) gs P (result (Stopped (P.steps + 1) (check_of k Q.due)) (ends_of (E n) Q.rows) Q.values Q.cells)
        unfolding point_after
        stops-here k g = record {
          point = Q;
          left = l;
          origins = (step-stepped gs W P A ends due s read other).origins;
          invariant = record { known = A.invariant.known; running = kept gs W P A ends due s read other; waits = A.invariant.waits };
          shown = shown-stopped X (h n) (E n) D F Q k (P.steps + 1) g (sym counted-here);
          numbered = λ j e. stopped-number (T n) (h n) (E n) D 1 j P A.goes e;
          less = omega arith;
          counted = omega (arith, counted-here);
          ahead = step-ahead gs W P A ends due s read other l;
          paused = λ x d. let z : going ≡ stopped k = sym x ∙ g in let o : ◌≡◌ {A = ℕ} 0 1 = cc in absurd (omega arith);
        }

        by-status : (x : Status) → Q.status ≡ x → Stretch (suc l) gs P
            (follow (step_shown x Q.due) (λ b. bare_run X (h n) (ends_of (E n) Q.rows) D F l (P.steps + 1) b Q.values Q.cells) P.steps P.due
            (ends_of (E n) Q.rows) Q.values Q.cells)
        by-status going g = goes-here g
        by-status (stopped k) g = stops-here k g
        by-status stuck g = absurd ((kept gs W P A ends due s read other).has-step g)

        step-here : Stretch (suc l) gs P (goes_on l P (bare_move X (h n) W D F P.due P.values P.cells))
        step-here = subst (λ (m : Move). Stretch (suc l) gs P (goes_on l P m)) (sym (step-stepped gs W P A ends due s read other).same)
            (by-status Q.status refl)

    -- The run without origins of at most l steps from P agrees with the machine of the set.
    pub stretch : (l : ℕ) (gs : List Frame) (W : List ℕ) (P : Point) → Stands rs D room gs n P → W ≡ ends_of (E n) P.rows
        → Stretch l gs P (bare_run X (h n) W D F l P.steps P.due P.values P.cells)
    unfolding bare_run
    stretch zero gs W P A ends =
        stays_here zero gs P _ A (rw ends (spent-or-done X (h n) (E n) D F (ltb P.due (h n).statements) _ _ _ _ _
        ∙ shown-going X (h n) (E n) D F P _ A.goes refl)) (λ d. inl refl)
    stretch (suc l) gs W P A ends =
        by-due (ltb P.due (h n).statements) refl (λ Q B. stretch l gs (ends_of (E n) Q.rows) Q B refl)
      where
        by_kind : (due : P.due < (h n).statements) (s : Statement) (read : statement_at (T n) (h n) P.due ≡ Some s) → Kind s
            → ((Q : Point) → Stands rs D room gs n Q
            → Stretch l gs Q (bare_run X (h n) (ends_of (E n) Q.rows) D F l Q.steps Q.due Q.values Q.cells))
            → Stretch (suc l) gs P (goes_on l P (bare_move X (h n) W D F P.due P.values P.cells))
        by_kind due s read (a_call c e) rest = call-here l gs W P A ends due s read c e
        by_kind due s read (no_call k) rest = step-here l gs W P A ends due s read (other-read _ s read k) rest

        by-due : (b : Bool) → ltb P.due (h n).statements ≡ b
            → ((Q : Point) → Stands rs D room gs n Q
            → Stretch l gs Q (bare_run X (h n) (ends_of (E n) Q.rows) D F l Q.steps Q.due Q.values Q.cells))
            → Stretch (suc l) gs P
            (cond b (goes_on l P (bare_move X (h n) W D F P.due P.values P.cells)) (result (Done P.steps) W P.values P.cells))
        by-due true e rest = let r = reads_here gs n P A P.due (ltb-true _ _ e) in by_kind (ltb-true _ _ e) r.0 r.1 (kind-of r.0) rest
        by-due false e rest = stays_here (suc l) gs P _ A (rw ends (shown-going X (h n) (E n) D F P false A.goes e))
            (λ d. absurd (omega (arith, d, ltb-false P.due (h n).statements e)))

    -- ---- and every access of it is inside

    -- The successors of a set have no marks.
    unmarked : n < length rs → (a : ℕ) → a < (h n).statements → Marked F a → ⊥
    unmarked k a l m =
        let laid = (S.setting n k).laid in
        omega (
          arith,
          m,
          ap (λ (x : Successors). x.other) (flow a l),
          (bounded_at (h n).statements (table_flow (T n) (h n)) a (successors 0 0 0) (flow-bounded (T n) (h n) laid)
              (omega (arith, flow-long (T n) (h n) laid))).1,
          (S.formed n k).formed.limits.statements,
        )

    ready-here : (gs : List Frame) (W : List ℕ) (P : Point) (A : Stands rs D room gs n P) (ends : W ≡ ends_of (E n) P.rows) (due : P.due < (h n).statements)
        (s : Statement) (read : statement_at (T n) (h n) P.due ≡ Some s) → Kind s → Ready X (h n) W F P.due P.values P.cells
    ready-here gs W P A ends due s read (a_call c e) =
        record {
          checked = T n;
          same = same P.due;
          statement = Call c;
          reads = read ∙ ap Some e;
          inside = tt;
          known = λ m x q. absurd (unmarked A.invariant.known P.due due m);
        }
    ready-here gs W P A ends due s read (no_call k) =
        record {
          checked = T n;
          same = same P.due;
          statement = s;
          reads = read;
          inside = step-inside gs W P A ends due s read (other-read _ s read k);
          known = λ m x q. absurd (unmarked A.invariant.known P.due due m);
        }

    module _ (l : ℕ) (gs : List Frame) (W : List ℕ) (P : Point) (A : Stands rs D room gs n P) (ends : W ≡ ends_of (E n) P.rows)
        (due : P.due < (h n).statements)
        (s : Statement) (read : statement_at (T n) (h n) P.due ≡ Some s) where
      abbrev SafeAfter : Move → Type 0
      SafeAfter m = Onward m.said (λ b. SafeRun X (h n) m.ends D F l b m.values m.cells)

      safe-call : (c : CallSite) → s ≡ Call c → SafeAfter (bare_move X (h n) W D F P.due P.values P.cells)
      unfolding statement_move
      safe-call c e =
          subst SafeAfter (sym (move-is gs W P A ends due s read
          ∙ ap (λ (x : Statement). statement_move W D x P.due (entries_at F P.due) P.values P.cells) e)) tt

      module _ (other : (c : CallSite) → statement_at (T n) (h n) P.due ≡ Some (Call c) → ⊥)
          (rest : (Q : Point) → Stands rs D room gs n Q → SafeRun X (h n) (ends_of (E n) Q.rows) D F l Q.due Q.values Q.cells) where
        safe-status : (x : Status) → (after P).status ≡ x → Onward (step_shown x (after P).due)
            (λ b. SafeRun X (h n) (ends_of (E n) (after P).rows) D F l b (after P).values (after P).cells)
        safe-status going g = rest (after P) (step-stands gs W P A ends due s read other g)
        safe-status (stopped k) g = tt
        safe-status stuck g = absurd ((kept gs W P A ends due s read other).has-step g)

        safe-step : SafeAfter (bare_move X (h n) W D F P.due P.values P.cells)
        safe-step = subst SafeAfter (sym (step-stepped gs W P A ends due s read other).same) (safe-status (after P).status refl)

    pub stretch-safe : (l : ℕ) (gs : List Frame) (W : List ℕ) (P : Point) → Stands rs D room gs n P → W ≡ ends_of (E n) P.rows
        → SafeRun X (h n) W D F l P.due P.values P.cells
    unfolding SafeRun
    stretch-safe zero gs W P A ends = tt
    stretch-safe (suc l) gs W P A ends =
        if-true X (h n) (E n) D F (ltb P.due (h n).statements) _ (λ e.
        let due = ltb-true P.due (h n).statements e in
        let r = reads_here gs n P A P.due due in (
          ready-here gs W P A ends due r.0 r.1 (kind-of r.0),
          by_kind due r.0 r.1 (kind-of r.0) (λ Q B. stretch-safe l gs (ends_of (E n) Q.rows) Q B refl),
        ))
      where
        by_kind : (due : P.due < (h n).statements) (s : Statement) (read : statement_at (T n) (h n) P.due ≡ Some s) → Kind s
            → ((Q : Point) → Stands rs D room gs n Q → SafeRun X (h n) (ends_of (E n) Q.rows) D F l Q.due Q.values Q.cells)
            → SafeAfter l gs W P A ends due s read (bare_move X (h n) W D F P.due P.values P.cells)
        by_kind due s read (a_call c e) rest = safe-call l gs W P A ends due s read c e
        by_kind due s read (no_call k) rest = safe-step l gs W P A ends due s read (other-read _ s read k) rest
