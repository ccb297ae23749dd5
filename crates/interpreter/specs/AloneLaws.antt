-- A routine by itself that is begun: the points of its own machine are those of the set of one, so that of its run it is left to show where it ends.
use Rattle.std.specs.Prelude.{ℕ, ◌≡◌, ◌≢◌, true, List, [], ◌∷◌, ℤ, length, Ok, Some}
use Rattle.std.proofs.Math.Path.{refl, sym, ap}
use Rattle.std.proofs.Common.{subst, ◌∙◌}
use Rattle.answers.specs.Answers.{Answer, reads}
use Rattle.answers.specs.declared.stops.Outcome.{Outcome}
use Rattle.words.specs.declared.sections.Sections.{Sections}
use Rattle.statements.specs.Statements.{statement_at}
use Rattle.statements.specs.declared.CallSite.{CallSite}
use Rattle.statements.specs.declared.Simple.{Simple}
use Rattle.statements.specs.declared.Statement.{Statement}
use Rattle.statements.specs.declared.Statement.TheVariants.{Plain, Call}
use Rattle.table.specs.Form.{form_of, sections_of}
use Rattle.table.specs.FormLaws.{formed-sections}
use Rattle.rules.specs.Calls.{routine_at}
use Rattle.rules.specs.Sets.{members, routine_of, routines_of}
use Rattle.rules.specs.Verdict.{environment_of}
use Rattle.rules.specs.BoundsRules.{in_force}
use Rattle.rules.specs.Report.{safe_at, reported_at}
use Rattle.rules.specs.Stored.{store, faults}
use Rattle.machine.specs.Machine.{none, going, stuck, Point, start}
use Rattle.machine.specs.Points.{failing_at}
use Rattle.machine.specs.AlonePoints.{point_after}
use Rattle.machine.specs.SetMachine.{Stack, stack, last_values}
use Rattle.machine.specs.Soundness.{Begun}
use Rattle.machine.specs.RunSound.{sound, no_call, point-kept, begun-setting, begun-walked, begun-invariant}
use Rattle.machine.specs.Alone.{alone-setting, alone-begins, alone-points}
use Rattle.interpreter.specs.NumberLaws.{stopped-number}
use Rattle.interpreter.specs.Outcomes.{outcome_shown}
use Rattle.interpreter.specs.Claim.{Lent, Leaves, answer_of, state_of, EndsAt, Ran}
use Rattle.interpreter.specs.AnswerLaws.{reads-shown}
use Rattle.interpreter.specs.SafeLaws.{reported-safe, safe-plain, safe-passes}
use Rattle.interpreter.specs.PointLaws.{ends-ran}

-- ---- what is lent and left, field by field

abbrev pub lends : List ℕ → List ℕ → List ℕ → List ℕ → Lent
lends D cs vs os = record { directory = D; cells = cs; values = vs; origins = os }

abbrev pub leaves : Outcome → List ℕ → List ℕ → Leaves
leaves r vs cs = record { answer = r; routine = 0; values = vs; cells = cs }

-- ---- points

-- The points of the routine's own machine, and what a run answers there.
module _ (T : List ℤ) (h : Sections) (D cs vs os : List ℕ) where
  abbrev pub point_alone : ℕ → Point
  point_alone t = point_after T h (environment_of T h) D t (start T h (environment_of T h) D cs vs os)

  abbrev pub answer_alone : ℕ → Answer
  answer_alone t = answer_of h (point_alone t).status (point_alone t).steps (point_alone t).due

-- With the sections as they are read off the table.
module _ (T L : List ℤ) (formed : form_of T ≡ Ok (sections_of T)) (accepts : faults [] T L ≡ []) (D cs vs os : List ℕ)
    (begun : Begun (sections_of T) (environment_of T (sections_of T)) D cs vs os) where
  state-alone : (t : ℕ) → state_of (T ∷ []) (lends D cs vs os) t ≡ stack [] 0 (point_alone T (sections_of T) D cs vs os t)
  unfolding routines_of members
  state-alone t = alone-points T L formed accepts D cs vs os begun t

  ends-alone : (t : ℕ) (m : Leaves) → EndsAt (T ∷ []) (lends D cs vs os) t m → Ran (T ∷ []) (lends D cs vs os) L t m
  unfolding routines_of members
  ends-alone t m e = ends-ran (T ∷ []) (lends D cs vs os) L (alone-setting T L formed accepts D cs vs os begun)
      (alone-begins T L formed accepts D cs vs os begun) begun.origins t m e

  ran-read : (t : ℕ) (r : Outcome) (vs' cs' : List ℕ) → reads r ≡ answer_alone T (sections_of T) D cs vs os t
      → vs' ≡ (point_alone T (sections_of T) D cs vs os t).values → cs' ≡ (point_alone T (sections_of T) D cs vs os t).cells
      → Ran (T ∷ []) (lends D cs vs os) L t (leaves r vs' cs')
  unfolding routines_of members
  ran-read t r vs' cs' a v c =
      let e = sym (state-alone t) in
      ends-alone t (leaves r vs' cs') (record {
        answer = a
            ∙ ap (λ (K : Stack). answer_of (routine_at (routine_of T ∷ []) K.routine).sections K.point.status K.point.steps K.point.due) e;
        routine = ap (λ (K : Stack). K.routine) e;
        values = v ∙ ap (λ (K : Stack). last_values (routine_of T ∷ []) D K.callers K.point.values) e;
        cells = c ∙ ap (λ (K : Stack). K.point.cells) e;
      })

module _ (T : List ℤ) (h : Sections) (L : List ℤ) (formed : form_of T ≡ Ok h) (accepts : faults [] T L ≡ []) (D cs vs os : List ℕ)
    (begun : Begun h (environment_of T h) D cs vs os) where
  pub unstuck : (t : ℕ) → (point_alone T h D cs vs os t).status ≢ stuck
  unstuck t = (sound T h L formed accepts D cs vs os begun t).has-step

  pub rows_long : (t : ℕ) → length (point_alone T h D cs vs os t).rows ≡ 16
  rows_long t = (sound T h L formed accepts D cs vs os begun t).rows_long

  -- A routine by itself that is accepted comes to no call.
  pub calls-none : (t : ℕ) (c : CallSite) → statement_at T h (point_alone T h D cs vs os t).due ≡ Some (Call c) → ⊥
  calls-none t =
      let E = environment_of T h in
      let S = begun-setting T h L formed accepts D cs vs os begun in
      let w = begun-walked T h L formed accepts D cs vs os begun in
      no_call T h E D (length cs) L S [] w refl (point_alone T h D cs vs os t)
      (point-kept T h E D (length cs) L S [] w refl t (start T h E D cs vs os) (begun-invariant T h L formed accepts D cs vs os begun))

  -- ---- point 9

  safe-here : (a : ℕ) → reported_at store T L a ≡ true → safe_at store T h L a ≡ true
  safe-here a e = ap (λ (g : Sections). safe_at store T g L a) (formed-sections T h formed) ∙ reported-safe T L a e

  -- A reported statement is of kinds 1 to 10 and 14,
  pub report-plain : (a : ℕ) → reported_at store T L a ≡ true → (s : Statement) → statement_at T h a ≡ Some s → (x : Simple) × (s ≡ Plain x)
  unfolding safe_at
  report-plain a e s r = safe-plain T h (environment_of T h) L a s (rw r at (safe-here a e))

  -- and where it is due, it fails no check.
  pub report-passes : (t : ℕ) → reported_at store T L (point_alone T h D cs vs os t).due ≡ true
      → failing_at (in_force (environment_of T h) (point_alone T h D cs vs os t).rows) (statement_at T h (point_alone T h D cs vs os t).due)
      (point_alone T h D cs vs os t).values ≡ none
  unfolding safe_at
  report-passes t e =
      safe-passes T h (environment_of T h) L D (length cs) (point_alone T h D cs vs os t) (sound T h L formed accepts D cs vs os begun t) _ refl
      (safe-here (point_alone T h D cs vs os t).due e)

  first-going : (start T h (environment_of T h) D cs vs os).status ≡ going
  unfolding start
  first-going = refl

  -- What the code answers at a point reads as what the machine shows there.
  pub reads_at : (t : ℕ) → reads (outcome_shown h (point_alone T h D cs vs os t).status (point_alone T h D cs vs os t).steps (point_alone T h D cs vs os t).due)
      ≡ answer_alone T h D cs vs os t
  reads_at t = reads-shown h (point_alone T h D cs vs os t).status (point_alone T h D cs vs os t).steps (point_alone T h D cs vs os t).due (unstuck t)
      (λ n s. stopped-number T h (environment_of T h) D t n (start T h (environment_of T h) D cs vs os) first-going s)

  -- The states of the set of one are the points of the routine.
  pub point-alone : (t : ℕ) → state_of (T ∷ []) (lends D cs vs os) t ≡ stack [] 0 (point_alone T h D cs vs os t)
  point-alone t =
      let e = formed-sections T h formed in
      subst (λ (g : Sections). state_of (T ∷ []) (lends D cs vs os) t ≡ stack [] 0 (point_alone T g D cs vs os t)) (sym e)
      (state-alone T L (subst (λ (g : Sections). form_of T ≡ Ok g) e formed) accepts D cs vs os
      (subst (λ (g : Sections). Begun g (environment_of T g) D cs vs os) e begun) t)

  -- A RUN THAT ENDS WHERE THE ROUTINE'S MACHINE ENDS IS AS CLAIMED, at every point.
  pub ran-alone : (t : ℕ) (r : Outcome) (vs' cs' : List ℕ) → reads r ≡ answer_alone T h D cs vs os t → vs' ≡ (point_alone T h D cs vs os t).values
      → cs' ≡ (point_alone T h D cs vs os t).cells → Ran (T ∷ []) (lends D cs vs os) L t (leaves r vs' cs')
  ran-alone t r vs' cs' a v c =
      let e = formed-sections T h formed in
      ran-read T L (subst (λ (g : Sections). form_of T ≡ Ok g) e formed) accepts D cs vs os
      (subst (λ (g : Sections). Begun g (environment_of T g) D cs vs os) e begun) t r vs' cs'
      (subst (λ (g : Sections). reads r ≡ answer_alone T g D cs vs os t) e a) (subst (λ (g : Sections). vs' ≡ (point_alone T g D cs vs os t).values) e v)
      (subst (λ (g : Sections). cs' ≡ (point_alone T g D cs vs os t).cells) e c)
