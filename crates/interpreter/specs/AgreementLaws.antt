-- The run without origins agrees with the plain machine, step by step and as a whole.
use Prim.Native.Nat.{ℕ, zero, suc, ◌+◌, ◌<◌, ◌≤◌, ◌-◌}
use Rattle.std.specs.Prelude.{◌≡◌, Bool, true, cond, List, [], ◌∷◌, leb, ltb, ℤ, get_or, set, Option, Some}
use Rattle.std.proofs.Math.Path.{refl, ap, subst}
use Rattle.std.proofs.Common.{sym, ◌∙◌, length-set}
use Rattle.std.proofs.Math.Bool.{false}
use Rattle.std.proofs.lemmas.Bool.{false≢true}
use native.Mathlib.Omega.{arith}
use borrow.Author.Tests.{ltb-true, leb-true, lt-ltb}
use Rattle.std.proofs.Math.ListN.{length}
use Rattle.sums.specs.Numbers.{bias}
use Rattle.words.specs.SectionsLaws.{both}
use Rattle.words.specs.Sections.{Limits}
use Rattle.words.specs.declared.sections.Sections.{Sections}
use Rattle.statements.specs.Statements.{statement_at}
use Rattle.statements.specs.Typed.{SimpleTyped, WellTyped}
use Rattle.statements.specs.StatementLaws.{read-typed, read-limits}
use Rattle.statements.specs.declared.Simple.{Simple}
use Rattle.statements.specs.declared.Simple.TheVariants.{Literal, AddConstant, Arithmetic, Null, Address, PointerOffset}
use Rattle.statements.specs.declared.Simple.TheVariants.{PointerIndex, Load, Store, Check as Test, Declare}
use Rattle.statements.specs.declared.Statement.{Statement}
use Rattle.statements.specs.declared.Statement.TheVariants.{Plain, If, While, Bundle, Call}
use Rattle.statements.specs.Decode.{decoded_at}
use Rattle.statements.specs.DecodeLaws.{read-decoded}
use Rattle.blocks.specs.Flow.{Successors}
use Rattle.blocks.specs.Shape.{entries_at}
use Rattle.rules.specs.BoundsRules.{in_force, rows_after}
use Rattle.rules.specs.declared.Environment.{Environment}
use Rattle.machine.specs.Machine.{low, high, address, in_origin, condition_holds, Failing, none, fails, failing, Status}
use Rattle.machine.specs.Machine.{going, stopped, stuck, Point, Memory, Performed, done, no_step, step_if, performed}
use Rattle.machine.specs.Machine.{memory_of, after_checks, branched, statement_step, successors_of, step_if_due, next_point, value}
use Rattle.machine.specs.AlonePoints.{point_after}
use Rattle.machine.specs.Points.{failing_at}
use Rattle.checks.specs.Checked.{step_unless, check_of}
use Rattle.steps.specs.Bare.{values_after, cells_after, changed_unless, Move, move, simple_move, statement_move, bare_move, InCells, InsideSimple, Inside}
use Rattle.steps.specs.Bare.{Ready}
use Rattle.interpreter.specs.BareRun.{BareResult, result, follow, bare_run, IfTrue, Onward, SafeRun}
use Rattle.interpreter.specs.Agreement.{step_shown, move_shown, result_shown, Serves, KnownAt, Runnable}
use Rattle.interpreter.specs.Outcomes.{outcome_shown}
use Rattle.entry.specs.Ends.{ends_of}
use Rattle.interpreter.specs.EndsLaws.{failing-same, ends-after, address-laid, indexed-laid}
use Rattle.checks.specs.declared.Step.{Step}
use Rattle.checks.specs.declared.Step.TheVariants.{Go}
use Rattle.answers.specs.declared.stops.Outcome.TheVariants.{Done, Spent, Stopped}

-- ---- what a statement of kinds 1 to 10 and 14 leaves

-- What is left in rows, values, cells and origins.
abbrev Leaves : List ℕ → List ℕ → List ℕ → ℕ → Performed → Type 0
Leaves rs vs cs k (done m) = (m.values ≡ vs) × (m.cells ≡ cs) × ((p : ℕ) → get_or m.origins p 0 ≤ k) × (m.rows ≡ rs)
Leaves rs vs cs k no_step = Unit {0}

leaves-if : (b : Bool) (rs vs cs : List ℕ) (k : ℕ) (p : Performed) → Leaves rs vs cs k p → Leaves rs vs cs k (step_if b p)
leaves-if true rs vs cs k p l = l
leaves-if false rs vs cs k p l = tt

-- A list of numbers up to k, with one of them set.
set-at-most : (l : List ℕ) (x v k : ℕ) → v ≤ k → ((p : ℕ) → get_or l p 0 ≤ k) → (p : ℕ) → get_or (set l x v) p 0 ≤ k
set-at-most [] x v k h f p = f p
set-at-most (y ∷ l) zero v k h f zero = h
set-at-most (y ∷ l) zero v k h f (suc p) = f (suc p)
set-at-most (y ∷ l) (suc x) v k h f zero = f zero
set-at-most (y ∷ l) (suc x) v k h f (suc p) = set-at-most l x v k h (λ q. f (suc q)) p

-- By the ends laid out for the rows R.
leaves : (T : List ℤ) (h : Sections) (E : Environment) (R D : List ℕ) (s : Simple) (m : Memory) → Limits h → SimpleTyped T h s
    → ((p : ℕ) → get_or m.origins p 0 ≤ h.objects) →
    Leaves (rows_after s m.rows) (values_after (ends_of E R) D s m.values m.cells) (cells_after (ends_of E R) s m.values m.cells) h.objects
    (performed E D s m)
unfolding performed values_after cells_after rows_after
leaves T h E R D (Literal x k) m l t o = (refl, refl, o, refl)
leaves T h E R D (AddConstant x y k) m l t o = (refl, refl, o, refl)
leaves T h E R D (Arithmetic x y z op) m l t o = (refl, refl, o, refl)
leaves T h E R D (Null p) m l t o = (refl, refl, set-at-most m.origins p 0 h.objects (omega arith) o, refl)
leaves T h E R D (Address p q) m l t o = (refl, refl, set-at-most m.origins p (q + 1) h.objects (omega (arith, t.object)) o, refl)
leaves T h E R D (PointerOffset p q k) m l t o = (refl, refl, set-at-most m.origins p (get_or m.origins q 0) h.objects (o q) o, refl)
leaves T h E R D (PointerIndex p q i) m l t o = (
  ap (set m.values p) (sym (indexed-laid E R m.values q i (omega (arith, t.source.below, l.variables)))),
  refl,
  set-at-most m.origins p
      (get_or m.origins q 0) h.objects (o q) o,
  refl,
)
leaves T h E R D (Load x p i k) m l t o =
    leaves-if (in_origin D (get_or m.origins p 0) (address E m.values p i k)) _ _ _ _ _ (
      ap (λ (a : ℕ). set m.values x (get_or m.cells (a - bias) 0))
          (sym (address-laid E R m.values p i k (omega (arith, t.pointer.below, l.variables)))),
      refl,
      o,
      refl,
    )
leaves T h E R D (Store p i k x) m l t o =
    leaves-if (in_origin D (get_or m.origins p 0) (address E m.values p i k)) _ _ _ _ _ (
      refl,
      ap (λ (a : ℕ). set m.cells (a - bias) (value m.values x))
          (sym (address-laid E R m.values p i k (omega (arith, t.pointer.below, l.variables)))),
      o,
      refl,
    )
leaves T h E R D (Test c) m l t o = (refl, refl, o, refl)
leaves T h E R D (Declare p r) m l t o = (refl, refl, o, refl)

cells-kept : (W : List ℕ) (s : Simple) (vs cs : List ℕ) → length (cells_after W s vs cs) ≡ length cs
unfolding cells_after
cells-kept W (Literal x k) vs cs = refl
cells-kept W (AddConstant x y k) vs cs = refl
cells-kept W (Arithmetic x y z op) vs cs = refl
cells-kept W (Null p) vs cs = refl
cells-kept W (Address p o) vs cs = refl
cells-kept W (PointerOffset p q k) vs cs = refl
cells-kept W (PointerIndex p q i) vs cs = refl
cells-kept W (Load x p i k) vs cs = refl
cells-kept W (Store p i k x) vs cs = simp length-set
cells-kept W (Test c) vs cs = refl
cells-kept W (Declare p r) vs cs = refl

-- ---- one step

-- What holds of the point Q after a step from P whose move is m.
pub record Stepped (E : Environment) (P Q : Point) (k : ℕ) (m : Move) : Type 0 where
  pub same : m ≡ move_shown E Q
  pub counted : Q.steps ≡ P.steps + 1
  pub long : length Q.cells ≡ length P.cells
  pub origins : (p : ℕ) → get_or Q.origins p 0 ≤ k

move_same : (s : Step) (W W' vs ws cs ds : List ℕ) → W ≡ W' → vs ≡ ws → cs ≡ ds → move s W vs cs ≡ move s W' ws ds
move_same s W W' vs ws cs ds o p q = rw (o, p, q)

module _ (E : Environment) (P : Point) (next k : ℕ) (o : (p : ℕ) → get_or P.origins p 0 ≤ k) where
  simple-stepped : (f : Failing) (p : Performed) (W rs vs cs : List ℕ) → W ≡ ends_of E rs → Leaves rs vs cs k p → length cs ≡ length P.cells
      → ((after_checks f P next p).status ≡ stuck → ⊥) →
      Stepped E P (after_checks f P next p) k
      (move (step_unless f P.due next) (changed_unless f (ends_of E P.rows) W) (changed_unless f P.values vs) (changed_unless f P.cells cs))
  unfolding step_unless changed_unless
  simple-stepped (fails n) p W rs vs cs w l e u = record { same = refl; counted = refl; long = refl; origins = o }
  simple-stepped none (done m) W rs vs cs w l e u =
      record {
        same = move_same (Go next) W (ends_of E m.rows) vs m.values cs m.cells (w ∙ ap (ends_of E) (sym l.3)) (sym l.0) (sym l.1);
        counted = refl;
        long = ap length l.1 ∙ e;
        origins = l.2;
      }
  simple-stepped none no_step W rs vs cs w l e u = absurd (u refl)

  branch-stepped : (b : Bool) (n : Successors)
      → Stepped E P (branched b P n) k (move (Go (cond b n.next n.other)) (ends_of E P.rows) P.values P.cells)
  branch-stepped true n = record { same = refl; counted = refl; long = refl; origins = o }
  branch-stepped false n = record { same = refl; counted = refl; long = refl; origins = o }

module _ (T : List ℤ) (h : Sections) (E : Environment) (D W S : List ℕ) where
  abbrev after : Point → Point
  after P = next_point T h E D P.status P

  -- A step from P whose statement is s, where the plain machine is not stuck after it.
  pub stepped : (P : Point) (s : Statement) (n : Successors) → W ≡ ends_of E P.rows → length P.rows ≡ 16 → Limits h → WellTyped T h s
      → ((p : ℕ) → get_or P.origins p 0 ≤ h.objects) →
      ((statement_step E D (Some s) n P).status ≡ stuck → ⊥)
      → Stepped E P (statement_step E D (Some s) n P) h.objects (statement_move W D s P.due n P.values P.cells)
  unfolding statement_step statement_move simple_move
  stepped P (Plain s) n w k l t o u =
      rw (w, failing-same T h E P.rows P.values s l t)
      (simple-stepped E P n.next h.objects o (failing (in_force E P.rows) P.values s) (performed E D s (memory_of P)) _ _ _ _
      (ends-after T h E P.rows s l t k) (leaves T h E P.rows D s (memory_of P) l t o) (cells-kept (ends_of E P.rows) s P.values P.cells) u)
  stepped P (If c x y) n w k l t o u = rw w (branch-stepped E P 0 h.objects o (condition_holds P.values c) n)
  stepped P (While c x) n w k l t o u = rw w (branch-stepped E P 0 h.objects o (condition_holds P.values c) n)
  stepped P (Bundle x) n w k l t o u = rw w (record { same = refl; counted = refl; long = refl; origins = o })
  stepped P (Call x) n w k l t o u = absurd (u refl)

  -- ---- an access is inside where the plain machine is not stuck

  not-lost : (P : Point) (f : Failing) (b : Bool) (n : ℕ) (q : Performed) → f ≡ none → ((after_checks f P n (step_if b q)).status ≡ stuck → ⊥) → b ≡ true
  not-lost P none true n q e u = refl
  not-lost P none false n q e u = absurd (u refl)
  not-lost P (fails k) b n q e u = let z : ◌≡◌ {A = ℕ} 0 1 = cc in absurd (omega arith)

  in-object : (o a : ℕ) (cs : List ℕ) → in_origin D o a ≡ true → o ≤ h.objects → ((i : ℕ) → i < h.objects → high D i ≤ length cs) → InCells a cs
  unfolding in_origin
  in-object zero a cs e l f = absurd (false≢true e)
  in-object (suc o) a cs e l f =
      let g = both (leb (low D o + bias) a) (ltb a (high D o + bias)) e in
      let p : low D o + bias ≤ a = leb-true _ _ g.0 in
      let q : a < high D o + bias = ltb-true _ _ g.1 in
      let r = f o (omega arith) in
      (omega arith, omega arith)

  module _ (P : Point) (o : (p : ℕ) → get_or P.origins p 0 ≤ h.objects) (f : (i : ℕ) → i < h.objects → high D i ≤ length P.cells) where
    inside-simple : (s : Simple) (n : ℕ) → W ≡ ends_of E P.rows → Limits h → SimpleTyped T h s →
        ((after_checks (failing (in_force E P.rows) P.values s) P n (performed E D s (memory_of P))).status ≡ stuck → ⊥) → InsideSimple W s P.values
        P.cells
    unfolding performed
    inside-simple (Literal x k) n w l t u = tt
    inside-simple (AddConstant x y k) n w l t u = tt
    inside-simple (Arithmetic x y z op) n w l t u = tt
    inside-simple (Null p) n w l t u = tt
    inside-simple (Address p q) n w l t u = tt
    inside-simple (PointerOffset p q k) n w l t u = tt
    inside-simple (PointerIndex p q i) n w l t u = tt
    inside-simple (Load x p i k) n w l t u =
        λ e. rw (w, address-laid E P.rows P.values p i k (omega (arith, t.pointer.below, l.variables)))
        (in-object (get_or P.origins p 0) (address E P.values p i k) P.cells
        (not-lost P (failing (in_force E P.rows) P.values (Load x p i k)) _ n _
        (sym (failing-same T h E P.rows P.values (Load x p i k) l t) ∙ (rw w at e)) u) (o p) f)
    inside-simple (Store p i k x) n w l t u =
        λ e. rw (w, address-laid E P.rows P.values p i k (omega (arith, t.pointer.below, l.variables)))
        (in-object (get_or P.origins p 0) (address E P.values p i k) P.cells
        (not-lost P (failing (in_force E P.rows) P.values (Store p i k x)) _ n _
        (sym (failing-same T h E P.rows P.values (Store p i k x) l t) ∙ (rw w at e)) u) (o p) f)
    inside-simple (Test c) n w l t u = tt
    inside-simple (Declare p r) n w l t u = tt

    pub inside : (s : Statement) (n : Successors) → W ≡ ends_of E P.rows → Limits h → WellTyped T h s → ((statement_step E D (Some s) n P).status ≡ stuck → ⊥)
        → Inside W s P.values P.cells
    unfolding statement_step
    inside (Plain s) n w l t u = inside-simple s n.next w l t u
    inside (If c x y) n w l t u = tt
    inside (While c x) n w l t u = tt
    inside (Bundle x) n w l t u = tt
    inside (Call x) n w l t u = tt

  -- ---- a point that is going, with a statement due

  step-serves : (s : Statement) (m n : Successors) (P : Point) → Serves s m n → statement_step E D (Some s) n P ≡ statement_step E D (Some s) m P
  unfolding statement_step
  step-serves (Plain s) m n P e =
      ap (λ (k : ℕ). after_checks (failing (in_force E P.rows) P.values s) P k (performed E D s (memory_of P))) (sym e)
  step-serves (If c x y) m n P e = ap (λ (k : Successors). statement_step E D (Some (If c x y)) k P) (sym e)
  step-serves (While c x) m n P e = ap (λ (k : Successors). statement_step E D (Some (While c x)) k P) (sym e)
  step-serves (Bundle x) m n P e = ap (λ (k : Successors). statement_step E D (Some (Bundle x)) k P) (sym e)
  step-serves (Call c) m n P e = refl

  -- The points after the next one are the later points.
  later : (t : ℕ) (P : Point) → point_after T h E D t (after P) ≡ after (point_after T h E D t P)
  unfolding point_after
  later zero P = refl
  later (suc t) P = ap after (later t P)

  stays : (P : Point) → after P ≡ P → (t : ℕ) → point_after T h E D t P ≡ P
  unfolding point_after
  stays P e zero = refl
  stays P e (suc t) = ap after (stays P e t) ∙ e

  after-ended : (P : Point) → P.status ≡ going → ltb P.due h.statements ≡ false → after P ≡ P
  unfolding next_point
  after-ended P g e = ap (λ (s : Status). next_point T h E D s P) g ∙ ap (λ (b : Bool). step_if_due T h E D b P) e

  after-stopped : (P : Point) (k : ℕ) → P.status ≡ stopped k → after P ≡ P
  unfolding next_point
  after-stopped P k g = ap (λ (s : Status). next_point T h E D s P) g

  rows-now : (P : Point) → Runnable T h E D W S P → length P.rows ≡ 16
  unfolding point_after
  rows-now P R = R.rows_long 0

  module _ (P : Point) (g : P.status ≡ going) (R : Runnable T h E D W S P) (due : P.due < h.statements) where
    abbrev here : Statement
    here = (R.reads P.due due).0

    abbrev reads : statement_at T h P.due ≡ Some here
    reads = (R.reads P.due due).1

    after_is : after P ≡ statement_step E D (Some here) (entries_at S P.due) P
    unfolding next_point
    after_is =
        ap (λ (s : Status). next_point T h E D s P) g
        ∙ (ap (λ (b : Bool). step_if_due T h E D b P) (lt-ltb P.due h.statements due)
        ∙ (ap (λ (r : Option Statement). statement_step E D r (successors_of T h E D P.due) P) reads
        ∙ step-serves here (entries_at S P.due) (successors_of T h E D P.due) P (R.successors P.due due here reads)))

    free : (after P).status ≡ stuck → ⊥
    unfolding point_after
    free e = R.unstuck 1 e

    free-here : (statement_step E D (Some here) (entries_at S P.due) P).status ≡ stuck → ⊥
    free-here e = free (ap (λ (Q : Point). Q.status) after_is ∙ e)

    point-stepped : Stepped E P (after P) h.objects (bare_move T h W D S P.due P.values P.cells)
    unfolding bare_move
    point-stepped =
        subst (λ (Q : Point). Stepped E P Q h.objects
        (statement_move W D (decoded_at T h P.due) P.due (entries_at S P.due) P.values P.cells)) (sym after_is)
        (rw (read-decoded T h P.due here reads)
        (stepped P here (entries_at S P.due) R.ends (rows-now P R) (read-limits T h P.due here reads).0 (read-typed T h P.due here reads)
        R.origins free-here))

    -- The step without origins says and leaves what the plain machine's next point shows.
    pub step-agrees : bare_move T h W D S P.due P.values P.cells ≡ move_shown E (after P)
    step-agrees = point-stepped.same

    pub step-ready : Ready T h W S P.due P.values P.cells
    unfolding point_after
    step-ready =
        record {
          checked = T;
          same = refl;
          statement = here;
          reads = reads;
          inside =
              inside P R.origins R.objects here (entries_at S P.due) R.ends (read-limits T h P.due here reads).0
              (read-typed T h P.due here reads) free-here;
          known = λ m s e.
              let r : statement_at T h P.due ≡ Some (Plain s) = reads ∙ ap Some e in
              rw R.ends
              (failing-same T h E P.rows P.values s (read-limits T h P.due (Plain s) r).0 (read-typed T h P.due (Plain s) r)
              ∙ (ap (λ (x : Option Statement). failing_at (in_force E P.rows) x P.values) (sym r) ∙ R.known 0 due m));
        }

    -- What the run needs holds of the next point too, with the ends in force there.
    pub runnable-next : Runnable T h E D (ends_of E (after P).rows) S (after P)
    unfolding point_after
    runnable-next =
        record {
          ends = refl;
          successors = R.successors;
          reads = R.reads;
          objects = λ i l. omega (arith, R.objects i l, point-stepped.long);
          origins = point-stepped.origins;
          rows_long = λ t. ap (λ (Q : Point). length Q.rows) (later t P) ∙ R.rows_long (suc t);
          unstuck = λ t e. R.unstuck (suc t) (ap (λ (Q : Point). Q.status) (sym (later t P)) ∙ e);
          known = λ t. subst (KnownAt T h E S) (sym (later t P)) (R.known (suc t));
        }

-- ---- the whole run

module _ (T : List ℤ) (h : Sections) (E : Environment) (D S : List ℕ) where
  abbrev next : Point → Point
  next P = next_point T h E D P.status P

  onward : (s : Status) (a : ℕ) (A : ℕ → Type 0) → (s ≡ going → A a) → (s ≡ stuck → ⊥) → Onward (step_shown s a) A
  onward going a A f u = f refl
  onward (stopped k) a A f u = tt
  onward stuck a A f u = absurd (u refl)

  pub if-true : (b : Bool) (A : Type 0) → (b ≡ true → A) → IfTrue b A
  if-true true A f = f refl
  if-true false A f = tt

  -- Where no point of the plain machine is stuck, every access of the code is inside.
  pub safe-run : (W : List ℕ) (l : ℕ) (P : Point) → P.status ≡ going → Runnable T h E D W S P → SafeRun T h W D S l P.due P.values P.cells
  unfolding SafeRun
  safe-run W zero P g R = tt
  safe-run W (suc l) P g R =
      if-true (ltb P.due h.statements) _
      (λ e.
      let due = ltb-true P.due h.statements e in (
        step-ready T h E D W S P g R due,
        subst (λ (m : Move). Onward m.said (λ b. SafeRun T h m.ends D S l b m.values m.cells)) (sym (step-agrees T h E D W S P g R due))
            (onward (next P).status (next P).due (λ b. SafeRun T h (ends_of E (next P).rows) D S l b (next P).values (next P).cells)
            (λ i. safe-run (ends_of E (next P).rows) l (next P) i (runnable-next T h E D W S P g R due)) (free T h E D W S P g R due)),
      ))

  pub spent-or-done : (b : Bool) (n a : ℕ) (W vs cs : List ℕ)
      → cond b (result (Spent n a) W vs cs) (result (Done n) W vs cs) ≡ result (cond b (Spent n a) (Done n)) W vs cs
  spent-or-done true n a W vs cs = refl
  spent-or-done false n a W vs cs = refl

  -- The result shown at a point that is going.
  pub shown-going : (P : Point) (b : Bool) → P.status ≡ going → ltb P.due h.statements ≡ b
      → result (cond b (Spent P.steps P.due) (Done P.steps)) (ends_of E P.rows) P.values P.cells ≡ result_shown E h P
  shown-going P b g e =
      ap (λ (x : Bool). result (cond x (Spent P.steps P.due) (Done P.steps)) (ends_of E P.rows) P.values P.cells) (sym e)
      ∙ ap (λ (s : Status). result (outcome_shown h s P.steps P.due) (ends_of E P.rows) P.values P.cells) (sym g)

  pub shown-stopped : (P : Point) (k n : ℕ) → P.status ≡ stopped k → n ≡ P.steps
      → result (Stopped n (check_of k P.due)) (ends_of E P.rows) P.values P.cells ≡ result_shown E h P
  shown-stopped P k n g e =
      ap (λ (i : ℕ). result (Stopped i (check_of k P.due)) (ends_of E P.rows) P.values P.cells) e
      ∙ ap (λ (s : Status). result (outcome_shown h s P.steps P.due) (ends_of E P.rows) P.values P.cells) (sym g)

  followed : (s : Status) (a n b : ℕ) (F : ℕ → BareResult) (W vs cs : List ℕ) (X : BareResult) → (s ≡ going → F a ≡ X)
      → ((k : ℕ) → s ≡ stopped k → result (Stopped (n + 1) (check_of k a)) W vs cs ≡ X) →
      (s ≡ stuck → ⊥) → follow (step_shown s a) F n b W vs cs ≡ X
  followed going a n b F W vs cs X f c u = f refl
  followed (stopped k) a n b F W vs cs X f c u = c k refl
  followed stuck a n b F W vs cs X f c u = absurd (u refl)

  by-test : (b : Bool) (x y X : BareResult) → (b ≡ true → x ≡ X) → (b ≡ false → y ≡ X) → cond b x y ≡ X
  by-test true x y X f c = f refl
  by-test false x y X f c = c refl

  -- The run without origins ends as the plain machine's point at that limit shows.
  pub run-agrees : (W : List ℕ) (l : ℕ) (P : Point) → P.status ≡ going → Runnable T h E D W S P
      → bare_run T h W D S l P.steps P.due P.values P.cells ≡ result_shown E h (point_after T h E D l P)
  unfolding bare_run point_after
  run-agrees W zero P g R = rw R.ends (spent-or-done (ltb P.due h.statements) _ _ _ _ _ ∙ shown-going P _ g refl)
  run-agrees W (suc l) P g R =
      by-test (ltb P.due h.statements) _ _ _
      (λ e.
      let due = ltb-true P.due h.statements e in
      let Q = next P in
      let n = P.steps + 1 in
      let X = ends_of E Q.rows in
      let counted = (point-stepped T h E D W S P g R due).counted in
      ap (λ (m : Move). follow m.said (λ b. bare_run T h m.ends D S l n b m.values m.cells) P.steps P.due m.ends m.values m.cells)
      (step-agrees T h E D W S P g R due)
      ∙ followed Q.status Q.due P.steps P.due (λ b. bare_run T h X D S l n b Q.values Q.cells) X Q.values Q.cells _
      (λ i. ap (λ (j : ℕ). bare_run T h X D S l j Q.due Q.values Q.cells) (sym counted)
      ∙ (run-agrees X l Q i (runnable-next T h E D W S P g R due) ∙ ap (result_shown E h) (later T h E D W S l P)))
      (λ k i. shown-stopped Q k n i (sym counted)
      ∙ ap (result_shown E h) (sym (stays T h E D W S Q (after-stopped T h E D W S Q k i) l) ∙ later T h E D W S l P))
      (free T h E D W S P g R due))
      (λ e. rw R.ends (shown-going P false g e ∙ ap (result_shown E h) (sym (stays T h E D W S P (after-ended T h E D W S P g e) (suc l)))))
