-- What a run that is begun has at its start, and the whole run from there.
use Prim.Native.Nat.{ℕ, zero, suc, ◌+◌, ◌*◌, ◌<◌, ◌≤◌}
use Rattle.std.specs.Prelude.{◌≡◌, Bool, false, not, ◌||◌, ◌&&◌, cond, List, [], ◌∷◌, ◌++◌, ltb, eqb, ℤ, length, get_or, Some}
use Rattle.std.proofs.Math.Path.{refl, ap, subst}
use Rattle.std.proofs.Common.{sym, ◌∙◌, ⊎_elim, eq-or-lt_of_le}
use Rattle.std.proofs.Math.Bool.{true}
use native.Mathlib.Omega.{arith}
use borrow.Author.Tests.{ltb-true, ltb-false, leb-true, eqb-true}
use Rattle.std.proofs.Math.Dec.{leb}
use Rattle.std.proofs.Math.ListN.{get_or-eq_default}
use Rattle.sums.specs.Numbers.{bias}
use Rattle.answers.specs.declared.refusals.Refusal.{Refusal}
use Rattle.answers.specs.declared.refusals.Refusal.TheVariants.{MemorySize, DirectoryPair, EntryLengths, EntryValue, LastCell}
use Rattle.words.specs.SectionsLaws.{both}
use Rattle.words.specs.declared.sections.Sections.{Sections}
use Rattle.table.specs.FormLaws.{Formed}
use Rattle.blocks.specs.Tree.{tree}
use Rattle.blocks.specs.Layout.{layout}
use Rattle.statements.specs.Statements.{statement_at}
use Rattle.statements.specs.declared.Simple.{Simple}
use Rattle.statements.specs.declared.Statement.{Statement}
use Rattle.statements.specs.declared.Statement.TheVariants.{Plain, If, While, Bundle, Call}
use Rattle.blocks.specs.Flow.{Successors, successors, table_flow, table_entry}
use Rattle.blocks.specs.Shape.{entries_at}
use Rattle.blocks.specs.Written.{written}
use Rattle.blocks.specs.FlowLaws.{begins, length-written}
use Rattle.blocks.specs.SuccessorLaws.{written_at, bounded_at, flow-bounded, flow-long}
use Rattle.reports.specs.Reports.{reported}
use Rattle.rules.specs.BoundsRules.{is_pointer, object_length, own_rows}
use Rattle.rules.specs.Verdict.{environment_of}
use Rattle.rules.specs.declared.Environment.{Environment}
use Rattle.machine.specs.Machine.{value, lower_end, upper_end, low, high, is_object, top, takes_from, origin_holds, bounds_true}
use Rattle.machine.specs.Machine.{stuck, successors_of, start}
use Rattle.machine.specs.AlonePoints.{point_after}
use Rattle.steps.specs.Bare.{mark}
use Rattle.entry.specs.Entry.{memory_right, end_before, pair_right, lengths_right, entry_right, cons_unless, failures, entry_refusals, last_right}
use Rattle.interpreter.specs.BareRun.{bare_run, SafeRun}
use Rattle.interpreter.specs.Slots.{Laid}
use Rattle.interpreter.specs.SlotsLaws.{slots-long}
use Rattle.entry.specs.Ends.{ends_of}
use Rattle.interpreter.specs.EndsLaws.{ends-long, ends-small, ends_named, ends-sizes}
use Rattle.interpreter.specs.Agreement.{result_shown, Serves, PassesAt, Runnable}
use Rattle.interpreter.specs.Marks.{marks}
use Rattle.interpreter.specs.MarksLaws.{length-marks, marks-next, marks-entries, marked-reported}
use Rattle.interpreter.specs.AgreementLaws.{safe-run, run-agrees}

-- "the first statement (in an empty table nothing)": the number 0 in both cases.
pub first-due : (T : List ℤ) (h : Sections) → 0 ≡ table_entry T h
unfolding table_entry tree
first-due T h =
    begins h.statements T h 0 h.statements (record { none = λ l. omega arith; end = λ l. omega arith; some = λ l m. refl })

-- ---- an entry with no refusal

no-cons : (b : Bool) (r : Refusal) (rs : List Refusal) → cons_unless b r rs ≡ [] → (b ≡ true) × (rs ≡ [])
no-cons true r rs e = (refl, e)
no-cons false r rs e = let z : ◌≡◌ {A = ℕ} 0 1 = cc in absurd (omega arith)

no-append : (xs ys : List Refusal) → xs ++ ys ≡ [] → (xs ≡ []) × (ys ≡ [])
no-append [] ys e = (refl, e)
no-append (x ∷ xs) ys e = let z : ◌≡◌ {A = ℕ} 0 1 = cc in absurd (omega arith)

none-fails : (right : ℕ → Bool) (r : ℕ → Refusal) (n i j : ℕ) → failures right r n i ≡ [] → i ≤ j → j < i + n → right j ≡ true
unfolding failures
none-fails right r zero i j e p q = absurd (omega arith)
none-fails right r (suc n) i j e p q =
    let c = no-cons (right i) (r i) (failures right r n (i + 1)) e in
    ⊎_elim (λ (g : i ≡ j). rw g at c.0) (λ (l : i < j). none-fails right r n (i + 1) j c.1 (omega arith) (omega arith)) (eq-or-lt_of_le p)

-- What causes 10 to 12 and 16 leave.
pub record Admitted (h : Sections) (E : Environment) (D cs vs os : List ℕ) : Type 0 where
  pub memory : length cs ≤ 16777216
  pub pairs : length D ≡ 2 * h.objects
  pub objects : (o : ℕ) → o < h.objects → pair_right E D cs o ≡ true
  pub values : length vs ≡ h.variables
  pub origins : length os ≡ h.variables
  pub entries : (v : ℕ) → v < h.variables → entry_right E D vs os v ≡ true
  pub last : (o : ℕ) → o < h.objects → last_right E D cs o ≡ true

pub admitted : (h : Sections) (E : Environment) (D cs vs os : List ℕ) → entry_refusals h E D cs vs os ≡ [] → Admitted h E D cs vs os
unfolding entry_refusals memory_right lengths_right
admitted h E D cs vs os e =
    let m = no-cons (memory_right h D cs) MemorySize _ e in
    let p = no-append (failures (pair_right E D cs) DirectoryPair h.objects 0) _ m.1 in
    let l = no-cons (lengths_right h vs os) EntryLengths _ p.1 in
    let v = no-append (failures (entry_right E D vs os) EntryValue h.variables 0) _ l.1 in
    let a = both (leb (length cs) 16777216) (eqb (length D) (2 * h.objects)) m.0 in
    let b = both (eqb (length vs) h.variables) (eqb (length os) h.variables) l.0 in
    record {
      memory = leb-true _ _ a.0;
      pairs = eqb-true _ _ a.1;
      objects = λ o q. none-fails (pair_right E D cs) DirectoryPair h.objects 0 o p.0 (omega arith) (omega arith);
      values = eqb-true _ _ b.0;
      origins = eqb-true _ _ b.1;
      entries = λ x q. none-fails (entry_right E D vs os) EntryValue h.variables 0 x v.0 (omega arith) (omega arith);
      last = λ o q. none-fails (last_right E D cs) LastCell h.objects 0 o v.1 (omega arith) (omega arith);
    }

module _ (h : Sections) (E : Environment) (D cs vs os : List ℕ) (A : Admitted h E D cs vs os) where
  -- Each object lies in the memory.
  pub object-inside : (o : ℕ) → o < h.objects → high D o ≤ length cs
  unfolding pair_right
  object-inside o l =
      let e = both (leb (end_before D o) (get_or D (2 * o) 0) && leb (high D o) (length cs)) (eqb (get_or D (2 * o + 1) 0) (object_length E o))
      (A.objects o l) in
      leb-true _ _ (both (leb (end_before D o) (get_or D (2 * o) 0)) (leb (high D o) (length cs)) e.0).1

  entry-origin : (v : ℕ) → entry_right E D vs os v ≡ true → get_or os v 0 ≤ h.objects
  unfolding entry_right bounds_true origin_holds
  entry-origin v e = go (is_pointer E v) (eqb (value vs v) 0) e
    where
      origin : (o l u : ℕ) → origin_holds E D v o l u ≡ true → o ≤ h.objects
      origin zero l u t = omega arith
      origin (suc o) l u t =
          let a = both (is_object D o && takes_from E v o && leb (low D o + bias) l) (leb u (top E D o + bias)) t in
          let b = both (is_object D o && takes_from E v o) (leb (low D o + bias) l) a.0 in
          omega (arith, ltb-true (2 * o + 1) (length D) (both (is_object D o) (takes_from E v o) b.0).0, A.pairs)

      none : eqb (get_or os v 0) 0 ≡ true → get_or os v 0 ≤ h.objects
      none e = let z : get_or os v 0 ≡ 0 = eqb-true _ _ e in omega arith

      go : (a b : Bool) → cond (a && not b) (b || origin_holds E D v (get_or os v 0) (lower_end E vs v) (upper_end E vs v)) (eqb (get_or os v 0) 0) ≡ true
          → get_or os v 0 ≤ h.objects
      go true true e = none e
      go true false e = origin (get_or os v 0) (lower_end E vs v) (upper_end E vs v) e
      go false b e = none e

  -- Each origin is an object's number plus 1, or 0.
  pub origin-inside : (v : ℕ) → get_or os v 0 ≤ h.objects
  origin-inside v = go (ltb v h.variables) (ltb-true v h.variables) (ltb-false v h.variables)
    where
      go : (b : Bool) → (b ≡ true → v < h.variables) → (b ≡ false → h.variables ≤ v) → get_or os v 0 ≤ h.objects
      go true p q = entry-origin v (A.entries v (p refl))
      go false p q =
          let l = q refl in
          let g : length os ≤ v = omega (arith, A.origins) in
          omega (arith, get_or-eq_default os 0 g)

-- ---- the run

module _ (T : List ℤ) (h : Sections) (D cs vs os w M : List ℕ)
    (formed : Formed T h) (laid : layout T h ≡ []) (room : 2 * h.statements ≤ length w) (A : Admitted h (environment_of T h) D cs vs os) where
  abbrev E : Environment
  E = environment_of T h

  abbrev W : List ℕ
  W = ends_of E own_rows

  abbrev S : List ℕ
  S = marks M h.statements (written (table_flow T h) w)

  -- What the code's run asks of its slices.
  pub start-laid : Laid T h W D S vs
  start-laid =
      record {
        prepared = record {
          table = omega (arith, formed.long);
          ends = ends-long E own_rows;
          small = ends-small T h formed.limits own_rows;
          sizes = ends-sizes T h own_rows;
          named = ends_named T h formed.limits own_rows;
          directory = omega (arith, A.pairs);
          successors = omega (arith, length-marks M (written (table_flow T h) w) h.statements, length-written (table_flow T h) w);
          slots = slots-long vs;
        };
        enough = omega (arith, A.values);
        few = omega (arith, A.values, formed.limits.variables);
      }

  -- A statement has the successors of the flow, marked where the words M report it.
  written-here : (a : ℕ) → a < h.statements → entries_at (written (table_flow T h) w) a ≡ successors_of T h E D a
  written-here a l = written_at T h laid w (omega (arith, formed.limits.statements)) room a (successors 0 0 0) l

  entry-small : (a : ℕ) → a < h.statements → get_or (written (table_flow T h) w) (2 * a + 1) 0 < mark
  entry-small a l =
      omega (
        arith,
        ap (λ (n : Successors). n.other) (written-here a l),
        (bounded_at h.statements (table_flow T h) a (successors 0 0 0) (flow-bounded T h laid) (omega (arith, flow-long T h laid))).1,
        formed.limits.statements,
      )

  same-serves : (s : Statement) (m n : Successors) → m ≡ n → Serves s m n
  same-serves (Plain s) m n e = ap (λ (k : Successors). k.next) e
  same-serves (If c x y) m n e = e
  same-serves (While c x) m n e = e
  same-serves (Bundle x) m n e = e
  same-serves (Call c) m n e = e

  module _ (unstuck : (t : ℕ) → (point_after T h E D t (start T h E D cs vs os)).status ≡ stuck → ⊥)
      (rows_long : (t : ℕ) → length (point_after T h E D t (start T h E D cs vs os)).rows ≡ 16)
      (plain : (a : ℕ) → a < h.statements → reported M a ≡ true → (s : Statement) → statement_at T h a ≡ Some s → (x : Simple) × (s ≡ Plain x))
      (passes : (t : ℕ) → PassesAt T h E M (point_after T h E D t (start T h E D cs vs os))) where
    serves : (a : ℕ) → a < h.statements → (s : Statement) → statement_at T h a ≡ Some s → Serves s (entries_at S a) (successors_of T h E D a)
    serves a l s r = go (reported M a) refl
      where
        go : (b : Bool) → reported M a ≡ b → Serves s (entries_at S a) (successors_of T h E D a)
        go true e =
            subst (λ (x : Statement). Serves x (entries_at S a) (successors_of T h E D a)) (sym (plain a l e s r).1)
            (marks-next M (written (table_flow T h) w) h.statements a ∙ ap (λ (k : Successors). k.next) (written-here a l))
        go false e = same-serves s _ _ (marks-entries M (written (table_flow T h) w) h.statements a e ∙ written-here a l)

    pub start-runnable : Runnable T h E D W S (start T h E D cs vs os)
    unfolding start
    start-runnable =
        record {
          ends = refl;
          successors = serves;
          reads = formed.statements;
          objects = object-inside h E D cs vs os A;
          origins = origin-inside h E D cs vs os A;
          rows_long = rows_long;
          unstuck = unstuck;
          known = λ t l m. passes t l (marked-reported M (written (table_flow T h) w) h.statements _ (entry-small _ l) m);
        }

    -- Where the plain machine is never stuck, the code's run is safe, and ends as the plain machine's point at the limit shows.
    pub start-safe : (l : ℕ) → SafeRun T h W D S l 0 vs cs
    unfolding start
    start-safe l = subst (λ (a : ℕ). SafeRun T h W D S l a vs cs) (sym (first-due T h)) (safe-run T h E D S W l (start T h E D cs vs os) refl start-runnable)

    pub start-agrees : (l : ℕ) → bare_run T h W D S l 0 0 vs cs ≡ result_shown E h (point_after T h E D l (start T h E D cs vs os))
    unfolding start
    start-agrees l = ap (λ (a : ℕ). bare_run T h W D S l 0 a vs cs) (first-due T h) ∙ run-agrees T h E D S W l (start T h E D cs vs os) refl start-runnable
