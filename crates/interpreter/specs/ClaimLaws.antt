-- The proof of the claim about a run: from the soundness theorem and from the agreement of the code's run with the plain machine.
use Rattle.std.specs.Prelude.{ℕ, ◌-◌, ◌*◌, ◌<◌, ◌≤◌, ◌≡◌, refl, Bool, true, List, [], ◌∷◌, ℤ, length, Err, Ok, Result, Some}
use Rattle.std.proofs.Common.{sym, ap, ◌∙◌, arith, le-leb}
use Rattle.answers.specs.declared.refusals.Refusal.{Refusal}
use Rattle.words.specs.declared.sections.Sections.{Sections}
use Rattle.table.specs.Form.{form_of}
use Rattle.table.specs.FormLaws.{well-formed, formed-sections}
use Rattle.blocks.specs.Flow.{table_flow}
use Rattle.blocks.specs.Written.{written, Written}
use Rattle.rules.specs.BoundsRules.{own_rows}
use Rattle.rules.specs.EnvironmentLaws.{environment-declares}
use Rattle.rules.specs.CallLaws.{none-formed}
use Rattle.rules.specs.AcceptedLaws.{clear, faults-clear}
use Rattle.blocks.specs.Layout.{also}
use Rattle.rules.specs.Verdict.{environment_of, verdict_of}
use Rattle.rules.specs.Sets.{members, routines_of}
use Rattle.rules.specs.Stored.{faults, store}
use Rattle.rules.specs.declared.Environment.{Environment}
use Rattle.machine.specs.Soundness.{Begun}
use Rattle.answers.specs.Answers.{reads}
use Rattle.entry.specs.Entry.{entry_refusals}
use Rattle.interpreter.specs.BegunLaws.{entry-begun}
use Rattle.entry.specs.Ends.{ends_of}
use Rattle.interpreter.specs.BareRun.{BareResult, Ends, SafeRun, bare_run}
use Rattle.interpreter.specs.Slots.{Laid}
use Rattle.interpreter.specs.StartLaws.{admitted, start-laid, start-safe, start-agrees}
use Rattle.interpreter.specs.Agreement.{result_shown, PassesAt}
use Rattle.rules.specs.Verdict as verdict_rules
use Rattle.rules.specs.ByChains.{by_chains}
use Rattle.rules.proofs.Decidable.{decided, decider, decider-decides}
use Rattle.rules.proofs.Agreement.{SameFirst, same_self, same-also, faults-agree}
use Rattle.interpreter.specs.Claim.{Lent, Leaves, entry_faults, run_faults}
use Rattle.interpreter.specs.Claim.{Ran, RunAnswer, RunJudged, Begins, WholeRun, WholeSetRun}
use Rattle.interpreter.specs.AnswerLaws.{never}
use Rattle.interpreter.specs.AloneLaws.{lends, leaves, point_alone, unstuck, rows_long, report-plain, report-passes, reads_at, ran-alone}
use Rattle.interpreter.specs.Marks.{marks, Reports}
use Rattle.reports.specs.Reports.{reported}
use Rattle.rules.specs.Report.{reported_at}
use Rattle.statements.specs.Statements.{statement_at}
use Rattle.statements.specs.declared.Simple.{Simple}
use Rattle.statements.specs.declared.Statement.{Statement}
use Rattle.statements.specs.declared.Statement.TheVariants.{Plain}
use Rattle.entry.specs.Entered.{entered}
use Rattle.interpreter.specs.Starts.{Small, Launched, First, Starts}
use Rattle.answers.specs.declared.stops.Outcome.TheVariants as outcome
use Rattle.answers.specs.declared.stops.Outcome.{Outcome}

-- ---- the contract of `run`

module _ (T : List ℤ) (h : Sections) (L : List ℤ) (formed : form_of T ≡ Ok h) (accepts : faults [] T L ≡ []) (D cs vs os : List ℕ) (small : Small cs vs)
    (none : entry_refusals h (environment_of T h) D cs vs os ≡ []) where
  pub begun : Begun h (environment_of T h) D cs vs os
  begun = entry-begun h (environment_of T h) D cs vs os (admitted h (environment_of T h) D cs vs os none) small.values-small small.cells-small
      (environment-declares T h (well-formed T h formed)).below

  -- What the loop asks.
  pub run-laid : (w M : List ℕ) → 2 * h.statements ≤ length w
      → Laid T h (ends_of (environment_of T h) own_rows) D (marks M h.statements (written (table_flow T h) w)) vs
  run-laid w M room = start-laid T h D cs vs os w M (well-formed T h formed) (clear [] T h L formed accepts).laid room
      (admitted h (environment_of T h) D cs vs os none)

  report-first : (M : List ℕ) → Reports T L M → (a : ℕ) → a < h.statements → reported M a ≡ true → reported_at store T L a ≡ true
  report-first M m a l e = sym (m a (omega (arith, l, (well-formed T h formed).limits.statements))) ∙ e

  pub run-plain : (M : List ℕ) → Reports T L M → (a : ℕ) → a < h.statements → reported M a ≡ true → (s : Statement) → statement_at T h a ≡ Some s
      → (x : Simple) × (s ≡ Plain x)
  run-plain M m a l e = report-plain T h L formed accepts D cs vs os begun a (report-first M m a l e)

  pub run-passes : (M : List ℕ) → Reports T L M → (t : ℕ) → PassesAt T h (environment_of T h) M (point_alone T h D cs vs os t)
  run-passes M m t l e = report-passes T h L formed accepts D cs vs os begun t (report-first M m _ l e)

  pub run-safe : (w M : List ℕ) → Reports T L M → 2 * h.statements ≤ length w → (limit : ℕ)
      → SafeRun T h (ends_of (environment_of T h) own_rows) D (marks M h.statements (written (table_flow T h) w)) limit 0 vs cs
  run-safe w M m room limit =
      start-safe T h D cs vs os w M (well-formed T h formed) (clear [] T h L formed accepts).laid room (admitted h (environment_of T h) D cs vs os none)
      (unstuck T h L formed accepts D cs vs os begun) (rows_long T h L formed accepts D cs vs os begun) (run-plain M m) (run-passes M m) limit

  -- What the loop leaves is the claim.
  pub run-claim : (w M : List ℕ) → Reports T L M → 2 * h.statements ≤ length w → (limit : ℕ) (r : Outcome) (W' vs' cs' : List ℕ)
      → Ends (bare_run T h (ends_of (environment_of T h) own_rows) D (marks M h.statements (written (table_flow T h) w)) limit 0 0 vs cs) r W' vs' cs'
      → Ran (T ∷ []) (lends D cs vs os) L limit (leaves r vs' cs')
  run-claim w M m room limit r W' vs' cs' e =
      let agrees : bare_run T h (ends_of (environment_of T h) own_rows) D (marks M h.statements (written (table_flow T h) w)) limit 0 0 vs cs
      ≡ result_shown (environment_of T h) h (point_alone T h D cs vs os limit)
      = start-agrees T h D cs vs os w M (well-formed T h formed) (clear [] T h L formed accepts).laid room (admitted h (environment_of T h) D cs vs os none)
      (unstuck T h L formed accepts D cs vs os begun) (rows_long T h L formed accepts D cs vs os begun) (run-plain M m) (run-passes M m) limit in
      ran-alone T h L formed accepts D cs vs os begun limit r vs' cs'
      (ap reads (e.outcome ∙ ap (λ (o : BareResult). o.outcome) agrees) ∙ reads_at T h L formed accepts D cs vs os begun limit)
      (e.values ∙ ap (λ (o : BareResult). o.values) agrees) (e.cells ∙ ap (λ (o : BareResult). o.cells) agrees)

-- ---- refusals of a run

-- A table with no fault is well formed.
pub no-form-refused : (T L : List ℤ) (r : Refusal) → faults [] T L ≡ [] → form_of T ≡ Err r → ⊥
no-form-refused T L r e f = let p = faults-clear [] T L e in let q = p.1.form in let z : ◌≡◌ {A = ℕ} 0 1 = cc in omega arith

-- Of an accepted table the faults of a run are those of the entry.
pub entry-only : (T : List ℤ) (h : Sections) (L : List ℤ) (D cs vs os : List ℕ) → form_of T ≡ Ok h → faults [] T L ≡ []
    → run_faults T L (lends D cs vs os) store ≡ entry_refusals h (environment_of T h) D cs vs os
unfolding run_faults also routines_of members
entry-only T h L D cs vs os f e = rw e (ap (λ (g : Sections). entry_refusals g (environment_of T g) D cs vs os) (sym (formed-sections T h f)))

pub entered-none : (rs : List Refusal) → entered rs ≡ Ok tt → rs ≡ []
unfolding entered
entered-none [] e = refl
entered-none (r ∷ rs) e = cc

pub begun-ran : (T : List ℤ) (h : Sections) (L : List ℤ) (D cs vs os : List ℕ) (limit : ℕ) (r : Outcome) (vs' cs' : List ℕ) → form_of T ≡ Ok h
    → faults [] T L ≡ []
    → entry_refusals h (environment_of T h) D cs vs os ≡ [] → Ran (T ∷ []) (lends D cs vs os) L limit (leaves r vs' cs')
    → RunAnswer T L (lends D cs vs os) (run_faults T L (lends D cs vs os) store) limit (leaves r vs' cs')
unfolding RunAnswer
begun-ran T h L D cs vs os limit r vs' cs' f e n a = rw (entry-only T h L D cs vs os f e, n) a

-- ---- what the code has in hand where the loop begins

pub launched : {T : List ℤ} {h : Sections} {L : List ℤ} {D cs vs os W S S₀ : List ℕ} {E' : Environment} {v : Result (Unit {0}) Refusal} {b : Bool} (w : List ℕ)
    → form_of T ≡ Ok h → faults [] T L ≡ [] → Small cs vs → E' ≡ environment_of T h → v ≡ entered (entry_refusals h E' D cs vs os) → v ≡ Ok tt
    → W ≡ ends_of E' own_rows
    → Written T h w b S₀ → length w ≡ 2048 → (M : List ℕ) → Reports T L M → S ≡ marks M h.statements S₀ → Launched T h L D cs vs os W S
launched {T} {h} {L} {D} {cs} {vs} {os} {W} {S} {S₀} {E'} {v} w f a l e q g k s n M m j =
    let room : 2 * h.statements ≤ length w = omega (arith, (well-formed T h f).limits.statements) in
    record {
      formed = f;
      accepts = a;
      small = l;
      none = rw e at (entered-none (entry_refusals h E' D cs vs os) (sym q ∙ g));
      ends = k ∙ ap (λ (X : Environment). ends_of X own_rows) e;
      slice = w;
      room = room;
      report = M;
      reports = m;
      successors = rw (rw (le-leb (2 * h.statements) (length w) room) at s.entries) at j;
    }

module _ {T : List ℤ} {h : Sections} {L : List ℤ} {D cs vs os W S : List ℕ} (begins : Launched T h L D cs vs os W S) (limit : ℕ) where
  pub launched-ready : Laid T h W D S vs × SafeRun T h W D S limit 0 vs cs
  launched-ready = rw (begins.ends, begins.successors) (
    run-laid T h L begins.formed begins.accepts D cs vs os begins.small begins.none begins.slice begins.report begins.room,
    run-safe T h L begins.formed begins.accepts D cs vs os begins.small begins.none begins.slice begins.report begins.reports
        begins.room limit,
  )

  pub launched-ran : {r : Outcome} {W' vs' cs' : List ℕ} → Ends (bare_run T h W D S (limit - 0) 0 0 vs cs) r W' vs' cs'
      → RunAnswer T L (lends D cs vs os) (run_faults T L (lends D cs vs os) store) limit (leaves r vs' cs')
  launched-ran {r} {W'} {vs'} {cs'} e =
      let z : limit - 0 ≡ limit = omega arith in
      begun-ran T h L D cs vs os limit r vs' cs' begins.formed begins.accepts begins.none
      (run-claim T h L begins.formed begins.accepts D cs vs os begins.small begins.none begins.slice begins.report begins.reports
      begins.room limit r W' vs' cs' (rw (z, begins.ends, begins.successors) at e))

-- ---- refusals of `prepare`

-- The verdict was a refusal.
pub check-refused : (T L : List ℤ) (D cs vs os : List ℕ) (r : Refusal) → Err r ≡ verdict_of (faults [] T L)
    → First (run_faults T L (lends D cs vs os) store) r
unfolding run_faults also verdict_of
check-refused T L D cs vs os r a = go (faults [] T L) a
  where
    go : (fs : List Refusal) → Err r ≡ verdict_of fs → First (also fs (entry_faults (T ∷ []) (lends D cs vs os))) r
    go [] a = let z : ◌≡◌ {A = ℕ} 0 1 = cc in absurd (omega arith)
    go (f ∷ fs) a = let e : f ≡ r = cc in (
      also fs (entry_faults (T ∷ []) (lends D cs vs os)),
      ap (λ (x : Refusal). x ∷ also fs (entry_faults (T ∷ []) (lends D cs vs os))) e,
    )

-- The entry refuses.
pub entry-refused : (T : List ℤ) (h : Sections) (L : List ℤ) (D cs vs os : List ℕ) (r : Refusal) → form_of T ≡ Ok h → faults [] T L ≡ []
    → entered (entry_refusals h (environment_of T h) D cs vs os) ≡ Err r → First (run_faults T L (lends D cs vs os) store) r
unfolding entered
entry-refused T h L D cs vs os r f e q = rw (entry-only T h L D cs vs os f e) (go (entry_refusals h (environment_of T h) D cs vs os) q)
  where
    go : (rs : List Refusal) → entered rs ≡ Err r → First rs r
    go [] q = let z : ◌≡◌ {A = ℕ} 0 1 = cc in absurd (omega arith)
    go (x ∷ rs) q = let e : x ≡ r = cc in (rs, ap (λ (y : Refusal). y ∷ rs) e)

-- A refused run changes nothing.
pub first-refused : (T L : List ℤ) (l : Lent) (limit : ℕ) (r : Refusal) → First (run_faults T L l store) r
    → RunAnswer T L l (run_faults T L l store) limit (leaves (outcome.Refused r) l.values l.cells)
unfolding RunAnswer
first-refused T L l limit r (rest, e) = rw e (record { answer = refl; routine = refl; values = refl; cells = refl })

pub started-refused : (s : Result Sections Refusal) (T L : List ℤ) (l : Lent) (W S : List ℕ) (r : Refusal) → s ≡ Err r → Starts s T L l W S
    → First (run_faults T L l store) r
started-refused s T L l W S r e x = rw e at x

pub started-launched : {s : Result Sections Refusal} {h : Sections} (T L : List ℤ) (l : Lent) (W S : List ℕ) → s ≡ Ok h → Starts s T L l W S
    → Launched T h L l.directory l.cells l.values l.origins W S
started-launched T L l W S e x = rw e at x

-- ---- the paper's facts

same-run : (fs gs : List Refusal) (T L : List ℤ) (D cs vs os : List ℕ) (limit : ℕ) (r : Outcome) (vs' cs' : List ℕ) → SameFirst fs gs
    → RunAnswer T L (lends D cs vs os) fs limit (leaves r vs' cs') → RunAnswer T L (lends D cs vs os) gs limit (leaves r vs' cs')
unfolding RunAnswer
same-run [] [] T L D cs vs os limit r vs' cs' s a = a
same-run [] (g ∷ gs) T L D cs vs os limit r vs' cs' s a = absurd s
same-run (f ∷ fs) [] T L D cs vs os limit r vs' cs' s a = absurd s
same-run (f ∷ fs) (g ∷ gs) T L D cs vs os limit r vs' cs' s a =
    record { answer = a.answer ∙ ap outcome.Refused s; routine = a.routine; values = a.values; cells = a.cells }

pub run-judged : (T L : List ℤ) (D cs vs os : List ℕ) (limit : ℕ) (r : Outcome) (vs' cs' : List ℕ)
    → RunAnswer T L (lends D cs vs os) (run_faults T L (lends D cs vs os) store) limit (leaves r vs' cs')
    → RunJudged T L (lends D cs vs os) limit (leaves r vs' cs')
unfolding RunJudged run_faults
run-judged T L D cs vs os limit r vs' cs' a =
    decided _ _ (λ d c.
    same-run (run_faults T L (lends D cs vs os) store) (run_faults T L (lends D cs vs os) (by_chains d)) T L D cs vs os limit r vs' cs'
    (same-also (faults [] T L) (verdict_rules.faults (by_chains d) [] T L) _ _ (faults-agree [] none-formed T L d c)
    (λ z. same_self (entry_faults (T ∷ []) (lends D cs vs os)))) a)

-- ---- of a routine that is begun or refused before it is served

-- It is refused so with any allowance.
pub refused-alone : (T L : List ℤ) (l : Lent) (r : Refusal) → First (run_faults T L l store) r → (limit : ℕ)
    → RunJudged T L l limit (leaves (outcome.Refused r) l.values l.cells)
refused-alone T L l r f limit =
    run-judged T L l.directory l.cells l.values l.origins limit _ _ _ (first-refused T L l limit r f)

none-same : (fs gs : List Refusal) → fs ≡ [] → SameFirst fs gs → gs ≡ []
none-same [] [] e s = refl
none-same [] (g ∷ gs) e s = absurd s
none-same (f ∷ fs) gs e s = let z : ◌≡◌ {A = ℕ} 0 1 = cc in never z

-- What is launched begins.
pub launched-begins : {T : List ℤ} {h : Sections} {L : List ℤ} {D cs vs os W S : List ℕ} → Launched T h L D cs vs os W S → Begins T L (lends D cs vs os)
unfolding run_faults
launched-begins {T} {h} {L} {D} {cs} {vs} {os} b =
    decided T _ (λ d c.
    none-same (run_faults T L (lends D cs vs os) store) (run_faults T L (lends D cs vs os) (by_chains d))
    (entry-only T h L D cs vs os b.formed b.accepts ∙ b.none)
    (same-also (faults [] T L) (verdict_rules.faults (by_chains d) [] T L) _ _ (faults-agree [] none-formed T L d c)
    (λ z. same_self (entry_faults (T ∷ []) (lends D cs vs os)))))

-- ---- the whole run

begins-ran : (fs : List Refusal) (T L : List ℤ) (l : Lent) (limit : ℕ) (m : Leaves) → fs ≡ [] → RunAnswer T L l fs limit m → Ran (T ∷ []) l L limit m
unfolding RunAnswer
begins-ran [] T L l limit m e a = a
begins-ran (f ∷ fs) T L l limit m e a = let z : ◌≡◌ {A = ℕ} 0 1 = cc in never z

pub judged-ran : (T L : List ℤ) (l : Lent) (limit : ℕ) (m : Leaves) → Begins T L l → RunJudged T L l limit m → Ran (T ∷ []) l L limit m
unfolding RunJudged
judged-ran T L l limit m b j =
    let d = decider T in
    let c = decider-decides T in
    begins-ran (run_faults T L l (by_chains d)) T L l limit m (b.by-each d c) (j.by-each d c)

pub whole_run : WholeRun
whole_run T L l limit call b j t e =
    ((judged-ran T L l t (call t) b (j t e)).ends, (judged-ran T L l limit (call limit) b (j limit (omega arith))).every-point t e)

pub whole-set-run : WholeSetRun
whole-set-run Ts l limit call a n j t e = (((j t e).ran a n).ends, ((j limit (omega arith)).ran a n).every-point t e)
