-- A call that is due at a level of the interpreter: the callee begins, and ends the run or returns.
use Rattle.std.specs.Prelude.{ℕ, suc, ◌+◌, ◌-◌, ◌*◌, ◌≤◌, ◌<◌, ◌≡◌, refl, Bool, true, false, List, [], ◌∷◌, ◌++◌, ltb, ℤ, length, get_or, set, take, drop}
use Rattle.std.proofs.Common.{sym, ap, ap₂, subst, ◌∙◌, append_assoc, arith, ltb-true, ltb-false, length-take, ext_get_or, get_or-take, get_or-drop}
use Rattle.std.proofs.Math.ListN.{get_or-eq_default}
use Rattle.arrays.specs.Tabulate.{tabulate}
use Rattle.arrays.specs.TabulateLaws.{get_d_tabulate, length-tabulate}
use Rattle.words.specs.declared.sections.Sections.{Sections}
use Rattle.words.specs.Sections.{statement_start}
use Rattle.statements.specs.Decode.{decoded_call_at}
use Rattle.statements.specs.declared.CallSite.{CallSite}
use Rattle.blocks.specs.Flow.{Successors}
use Rattle.blocks.specs.Shape.{entries_at}
use Rattle.rules.specs.Calls.{Routine, argument}
use Rattle.rules.specs.Sets.{routines_of}
use Rattle.rules.proofs.SetLaws.{length-routines}
use Rattle.machine.specs.Machine.{value, Point}
use Rattle.machine.specs.SetMachine.{Frame, Stack, stack, stack_after, last_values, table_of, sections_of, waiting, begun, resumed, result_of}
use Rattle.machine.specs.SetSound.{resume-kept, caller-waits, Calls, calls}
use Rattle.answers.specs.declared.stops.Outcome.{Outcome}
use Rattle.interpreter.specs.StartLaws.{first-due}
use Rattle.sets.specs.Tables.{tables_in}
use Rattle.sets.specs.TableLaws.{length-tables}
use Rattle.set_runs.specs.Lent.{read_in, sections_in, room_of, flow_of, called_values}
use Rattle.set_runs.specs.LentLaws.{statements-inside}
use Rattle.set_runs.specs.Levels.{Stands, Begins, final, HasReturned, HasHalted, Callable, MayCall, Along}
use Rattle.set_runs.specs.StackLaws.{later, settled-due, settled-ended, next-call}
use Rattle.set_runs.specs.StretchLaws.{sound-here}
use Rattle.set_runs.specs.RoutineLaws.{sections-here, limits-here, Paused, AtCall}
use Rattle.set_runs.specs.declared.SetOutcome.{SetOutcome}

take-tabulate : {A : Type 0} (n m : ℕ) (f : ℕ → A) (d : A) → n ≤ m → take n (tabulate m f) ≡ tabulate n f
take-tabulate n m f d l =
    let a : length (take n (tabulate m f)) ≡ n = length-take n (tabulate m f) ∙ omega (arith, length-tabulate m f) in
    ext_get_or d (take n (tabulate m f)) (tabulate n f) (a ∙ sym (length-tabulate n f))
    (λ i q. get_or-take n (tabulate m f) i d (omega (arith, a)) ∙ (get_d_tabulate m f i d (omega (arith, a)) ∙ sym (get_d_tabulate n f i d (omega (arith, a)))))

last_of : (rs : List Routine) (D : List ℕ) (fs : List Frame) (F : Frame) (vs : List ℕ) → last_values rs D (fs ++ (F ∷ [])) vs ≡ F.values
last_of rs D [] F vs = refl
last_of rs D (G ∷ fs) F vs = last_of rs D fs F G.values

module _ {W : List ℤ} {L D S : List ℕ} {room : ℕ} (C : Callable W L D S room) (n : ℕ) (known : n < length L) where
  abbrev rs : List Routine
  rs = routines_of (tables_in W L)

  -- The call at the statement a, as the code decodes it.
  abbrev pub site_at : ℕ → CallSite
  site_at a = decoded_call_at (read_in W L n) (sections_in W L n) a

  -- The number of its callee's variables.
  abbrev pub count_at : ℕ → ℕ
  count_at a = (sections_in W L (site_at a).callee).variables

  module _ {limit : ℕ} {gs : List Frame} {P : Point} {o : Outcome} {ends vs cs : List ℕ} (q : Paused C n known limit gs P o ends vs cs) {s a : ℕ}
      (x : AtCall C n known q s a) where
    abbrev Q : Point
    Q = q.point

    abbrev c : CallSite
    c = site_at a

    abbrev k : ℕ
    k = (site_at a).callee

    -- The caller as it waits, and the callee as it begins.
    abbrev F : Frame
    F = waiting rs D (stack gs n Q) c

    abbrev B : Point
    B = begun rs D c Q

    stands : Stands rs D room gs n Q
    stands = record { goes = x.goes; origins = q.origins; invariant = q.invariant }

    called : Calls rs D room [] C.setting (stack gs n Q) q.invariant c
    called = calls rs D room [] C.setting (stack gs n Q) q.invariant c x.reads

    -- "below the caller's"
    pub callee-below : k < n
    callee-below = called.below

    pub callee_known : k < length L
    callee_known = omega (arith, callee-below)

    in-set : k < length rs
    in-set = omega (arith, callee_known, length-routines (tables_in W L), length-tables W L)

    count-is : count_at a ≡ (sections_of rs D k).variables
    count-is = ap (λ (h : Sections). h.variables) (sections-here C k callee_known)

    pub count-some : 1 ≤ count_at a
    count-some = omega (arith, count-is, (limits-here C k callee_known).some)

    pub count-few : count_at a ≤ 16
    count-few = omega (arith, count-is, (limits-here C k callee_known).variables)

    pub statement-few : a < 1024
    statement-few = omega (arith, x.within, x.due, (limits-here C n known).statements)

    -- The record of the call lies in the table.
    pub call-inside : statement_start (sections_in W L n) a + 7 ≤ length (read_in W L n)
    call-inside =
        let h = sections-here C n known in
        let l = limits-here C n known in
        let w : a < (sections_in W L n).statements = omega (arith, x.within, x.due, ap (λ (g : Sections). g.statements) h) in
        omega (
          arith,
          w,
          statements-inside W L C.accepted n known,
          l.start,
          l.objects,
          l.variables,
          l.statements,
          ap (λ (g : Sections). g.start) h,
          ap (λ (g : Sections). g.objects) h,
          ap (λ (g : Sections). g.variables) h,
          ap (λ (g : Sections). g.statements) h,
        )

    -- ---- the callee begins

    origins-called : (p : ℕ) → get_or B.origins p 0 ≤ (sections_of rs D k).objects
    origins-called p = go (ltb p (sections_of rs D k).variables) refl
      where
        f : ℕ → ℕ
        f j = get_or q.point.origins (argument (site_at a) j) 0

        go : (b : Bool) → ltb p (sections_of rs D (site_at a).callee).variables ≡ b
            → get_or (tabulate (sections_of rs D (site_at a).callee).variables (λ j. get_or q.point.origins (argument (site_at a) j) 0)) p 0
            ≤ (sections_of rs D (site_at a).callee).objects
        go true e = omega (
          arith,
          get_d_tabulate (sections_of rs D (site_at a).callee).variables (λ j. get_or q.point.origins (argument (site_at a) j) 0) p 0
              (ltb-true p (sections_of rs D (site_at a).callee).variables e),
          q.origins (argument (site_at a) p),
          C.setting.objects (site_at a).callee n in-set q.invariant.known,
        )
        go false e =
            let l : length (tabulate (sections_of rs D (site_at a).callee).variables (λ j. get_or q.point.origins (argument (site_at a) j) 0)) ≤ p =
            omega (
              arith,
              length-tabulate (sections_of rs D (site_at a).callee).variables (λ j. get_or q.point.origins (argument (site_at a) j) 0),
              ltb-false p (sections_of rs D (site_at a).callee).variables e,
            ) in
            omega (
              arith,
              get_or-eq_default
                  (tabulate (sections_of rs D (site_at a).callee).variables (λ j. get_or q.point.origins (argument (site_at a) j) 0)) 0 l,
            )

    begins : Begins rs D room (F ∷ gs) k B (s + 1) (take (count_at a) (called_values vs c)) cs
    begins = record {
      stands = record {
        goes = refl;
        origins = origins-called;
        invariant = record {
          known = in-set;
          running = called.invariant;
          waits = (callee-below, caller-waits rs D room [] C.setting (stack gs n Q) q.invariant c x.reads, q.invariant.waits);
        };
      };
      due = sym (first-due (table_of rs D k) (sections_of rs D k));
      rows = refl;
      steps = omega (arith, x.steps);
      values =
          let l : (sections_of rs D k).variables ≤ 16 = (limits-here C k callee_known).variables in
          sym (ap (λ (m : ℕ). take m (called_values vs c)) count-is
          ∙ (ap (λ (us : List ℕ). take (sections_of rs D k).variables (called_values us c)) q.values
          ∙ take-tabulate (sections_of rs D k).variables 16 (λ (j : ℕ). value q.point.values (argument (site_at a) j)) 0 l));
      cells = sym q.cells;
    }

    -- The memory is as large as it was.
    room-is : room ≡ length cs
    room-is = sym (sound-here rs D room C.setting gs n Q stands).cells-long ∙ ap length (sym q.cells)

    pub begins-there : Begins rs D (length cs) (F ∷ gs) k B (s + 1) (take (count_at a) (called_values vs c)) cs
    begins-there = subst (λ (r : ℕ). Begins rs D r (F ∷ gs) k B (s + 1) (take (count_at a) (called_values vs c)) cs) room-is begins

    pub may-call : {ends' : List ℕ} → 512 * k + 512 ≤ length ends' → MayCall W L D S k limit (s + 1) ends' (take (count_at a) (called_values vs c)) cs
    may-call fits = record {
      callable = subst (λ (r : ℕ). Callable W L D S r) room-is C;
      known = callee_known;
      room = fits;
      within = omega (arith, x.left);
      called = record { callers = F ∷ gs; point = B; begins = begins-there };
    }

    -- The run goes on in the callee.
    call-ahead : final rs D room limit gs n P ≡ final rs D room limit (F ∷ gs) k B
    call-ahead =
        let t : limit - Q.steps ≡ suc (limit - (Q.steps + 1)) = omega (arith, x.left, x.steps) in
        q.ahead
        ∙ (ap₂ (λ (m : ℕ) (K : Stack). stack_after rs D m K) t (settled-due rs D gs n Q x.within)
        ∙ (later rs D (limit - (Q.steps + 1)) (stack gs n Q)
        ∙ ap (stack_after rs D (limit - (Q.steps + 1))) (next-call rs D gs n Q x.goes x.within c x.reads)))

    -- ---- it ends the run

    pub halts-there : {w : SetOutcome} {us ds : List ℕ} → HasHalted rs D (length cs) limit (F ∷ gs) k B w us ds → HasHalted rs D room limit gs n P w vs ds
    halts-there {w} {us} {ds} y = record {
      above = y.above ++ (F ∷ []);
      point = y.point;
      state = call-ahead ∙ (y.state ∙ ap (λ (fs : List Frame). stack fs w.routine y.point) (sym (append_assoc y.above (F ∷ []) gs)));
      outcome = y.outcome;
      numbered = y.numbered;
      values = q.values ∙ sym (last_of rs D y.above F y.point.values);
      cells = y.cells;
    }

    -- ---- it returns

    pub goes-on-here : {w at' : ℕ} {us ds ends' vs' : List ℕ} (called' : List ℕ) → HasReturned rs D (length cs) limit (F ∷ gs) k B w us ds
        → get_or called' (count_at a - 1) 0 ≡ get_or us (count_at a - 1) 0 → room_of ends' n ≡ room_of ends n → at' ≡ get_or S (2048 * n + 2 * a) 0
        → vs' ≡ set vs c.result (get_or called' (count_at a - 1) 0) → Along W L D S n room limit gs P at' w ends' vs' ds
    goes-on-here {w} {at'} {us} {ds} {ends'} {vs'} called' y last kept due given =
        let y' = subst (λ (r : ℕ). HasReturned rs D r limit (F ∷ gs) k B w us ds) (sym room-is) y in
        let R : Point = resumed rs D F y'.point (result_of rs D k y'.point) in
        let next : Successors = entries_at (flow_of S n) Q.due in
        record {
          point = R;
          stands = record {
            goes = refl;
            origins = q.origins;
            invariant = record {
              known = q.invariant.known;
              running = resume-kept rs D room [] C.setting k in-set F (caller-waits rs D room [] C.setting (stack gs n Q) q.invariant c x.reads)
                  y'.point
                  y'.stands.invariant.running;
              waits = q.invariant.waits;
            };
          };
          due =
              ap (λ (z : Successors). z.next) (sym (C.flows n known Q.due x.within))
              ∙ (flow_next ∙ sym due);
          counted = y'.steps;
          values =
              let r : result_of rs D k y'.point ≡ get_or called' (count_at a - 1) 0 =
              ap₂ (λ (l : List ℕ) (m : ℕ). get_or l (m - 1) 0) y'.values (sym count-is) ∙ sym last in
              ap₂ (λ (l : List ℕ) (m : ℕ). set l c.result m) (sym q.values) r ∙ sym given;
          cells = y'.cells;
          in-force = kept ∙ q.in-force;
          grows = omega (arith, q.grows, y'.grows);
          within = y'.within;
          ahead =
              call-ahead
              ∙ (y'.ahead ∙ ap (stack_after rs D (limit - y'.point.steps)) (settled-ended rs D F gs k y'.point y'.stands.goes y'.ended));
        }
      where
        flow_next : get_or (flow_of S n) (2 * q.point.due) 0 ≡ get_or S (2048 * n + 2 * a) 0
        flow_next =
            let e : 2 * q.point.due ≡ 2 * a = omega (arith, x.due) in
            get_or-take 2048 (drop (2048 * n) S) (2 * q.point.due) 0 (omega (arith, x.due, statement-few))
            ∙ (get_or-drop (2048 * n) S (2 * q.point.due) 0 ∙ ap (λ (i : ℕ). get_or S (2048 * n + i) 0) e)

    -- and some steps are made.
    pub returns-later : {w : ℕ} {us ds : List ℕ} → HasReturned rs D (length cs) limit (F ∷ gs) k B w us ds → s < w
    returns-later y = omega (arith, y.grows, x.steps)
