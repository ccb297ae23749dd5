-- What a run answers in words is small: the place and the pointer of a refusal, and the statement at which it is spent or has stopped.
use Prim.Native.Nat.{ℕ, zero, suc, ◌+◌, ◌^◌, ◌<◌, ◌≤◌}
use Rattle.std.proofs.Math.Path.{◌≡◌, refl}
use Rattle.std.proofs.Common.{sym, ap, ◌∙◌, add-one, ltb-true}
use Rattle.std.specs.Prelude.{Bool, true, false, cond, List, [], ◌∷◌, ltb, ℤ, length, Ok}
use native.Mathlib.Omega.{arith}
use Rattle.answers.specs.Answers.{Answer, done, spent, stopped, refused, reads}
use Rattle.answers.specs.declared.refusals.Refusal.{Refusal}
use Rattle.words.specs.declared.sections.Sections.{Sections}
use Rattle.table.specs.Form.{form_of, sections_of}
use Rattle.table.specs.FormLaws.{well-formed}
use Rattle.blocks.specs.LayoutLaws.{no-first}
use Rattle.rules.specs.FactSets.{FactSets}
use Rattle.rules.specs.CallLaws.{AllFormed}
use Rattle.rules.specs.Verdict.{environment_of}
use Rattle.rules.specs.Sets.{members, routines_of}
use Rattle.rules.specs.ByChains.{by_chains}
use Rattle.rules.specs.Small.{RefusalSmall, FirstSmall, also-small}
use Rattle.rules.proofs.SmallLaws.{faults-small}
use Rattle.rules.proofs.SetLaws.{faults-formed}
use Rattle.machine.specs.Machine as machine
use Rattle.machine.specs.SetMachine.{Stack, stack_after, start_stack, next_stack}
use Rattle.entry.specs.SmallLaws.{entry-small}
use Rattle.interpreter.specs.SetStepLaws.{stack-rests}
use Rattle.interpreter.specs.Claim.{Lent, Leaves, NotBegun, answer_of, state_of, point_of, running, answer_at, Ran, run_faults, RunAnswer, RunJudged}

-- The numbers of an answer are 32-bit numbers. (Steps are such by their type.)
abbrev pub AnswerSmall : Answer → Type 0
AnswerSmall (done n) = Unit {0}
AnswerSmall (spent n a) = a < 2 ^ 32
AnswerSmall (stopped n a k) = a < 2 ^ 32
AnswerSmall (refused n a p) = (a < 2 ^ 32) × (p < 2 ^ 32)

-- ---- at a point

at-point : (h : Sections) (s : machine.Status) (steps due : ℕ) → h.statements ≤ 1024 → (s ≡ machine.stuck → ⊥) → ((n : ℕ) → s ≡ machine.stopped n → due < 1024)
    → AnswerSmall (answer_of h s steps due)
at-point h machine.going steps due f u d = go (ltb due h.statements) (λ q. ltb-true _ _ q)
  where
    go : (b : Bool) → (b ≡ true → due < h.statements) → AnswerSmall (cond b (spent steps due) (done steps))
    go true q = let l = q refl in omega arith
    go false q = tt
at-point h (machine.stopped n) steps due f u d = let l = d n refl in omega arith
at-point h machine.stuck steps due f u d = absurd (u refl)

-- A run that a refusal refuses.
pub not-begun-small : {n : ℕ} {f : Refusal} {l : Lent} {m : Leaves} → NotBegun n f l m → RefusalSmall f → AnswerSmall (reads m.answer)
not-begun-small b s = let e = b.answer in rw e (s.place-small, s.pointer-small)

-- ---- a begun run

module _ (Ts : List (List ℤ)) (l : Lent) (formed : AllFormed (routines_of Ts)) {L : List ℤ} {limit : ℕ} {m : Leaves} (ran : Ran Ts l L limit m) where
  few : (t : ℕ) → t ≤ limit → (running Ts l t).sections.statements ≤ 1024
  few t e =
      let k : (state_of Ts l t).routine < length (routines_of Ts) = omega (arith, (ran.every-point t e).frames) in
      (formed (state_of Ts l t).routine k).formed.limits.statements

  next : (t : ℕ) → state_of Ts l (suc t) ≡ next_stack (routines_of Ts) l.directory (state_of Ts l t)
  unfolding stack_after
  next t = refl

  rests : (t : ℕ) → ((point_of Ts l t).status ≡ machine.going → ltb (point_of Ts l t).due (running Ts l t).sections.statements ≡ false)
      → state_of Ts l (suc t) ≡ state_of Ts l t
  rests t k = next t ∙ stack-rests (routines_of Ts) l.directory (state_of Ts l t) k

  -- A stopped run's statement stays due, and it was due before.
  due-few : (t : ℕ) → t ≤ limit → (n : ℕ) → (point_of Ts l t).status ≡ machine.stopped n → (point_of Ts l t).due < 1024
  unfolding stack_after start_stack machine.start
  due-few zero e n s = let z : ◌≡◌ {A = ℕ} 0 1 = cc in absurd (omega arith)
  due-few (suc t) e n s = go (point_of Ts l t).status refl (λ k q. due-few t (omega arith) k q)
    where
      here : t ≤ limit
      here = omega arith

      stop : (point_of Ts l t).status ≡ machine.going → (point_of Ts l (suc t)).due ≡ (point_of Ts l t).due
      stop q =
          let a : state_of Ts l (t + 1) ≡ state_of Ts l (suc t) = ap (state_of Ts l) (add-one t) in
          let b : (point_of Ts l (t + 1)).status ≡ machine.stopped n = ap (λ (K : Stack). K.point.status) a ∙ s in
          ap (λ (K : Stack). K.point.due) (sym a ∙ (ran.every-point t here).stop-changes-nothing q n b)

      by-due : (b : Bool) → ltb (point_of Ts l t).due (running Ts l t).sections.statements ≡ b → (point_of Ts l t).status ≡ machine.going
          → (point_of Ts l (suc t)).due < 1024
      by-due true q g = omega (arith, stop g, ltb-true (point_of Ts l t).due (running Ts l t).sections.statements q, few t here)
      by-due false q g =
          let r = rests t (λ x. q) in
          let x : machine.going ≡ machine.stopped n = sym g ∙ (sym (ap (λ (K : Stack). K.point.status) r) ∙ s) in
          let z : ◌≡◌ {A = ℕ} 0 1 = cc in absurd (omega arith)

      go : (x : machine.Status) → (point_of Ts l t).status ≡ x
          → ((k : ℕ) → (point_of Ts l t).status ≡ machine.stopped k → (point_of Ts l t).due < 1024) → (point_of Ts l (suc t)).due < 1024
      go machine.going q i = by-due (ltb (point_of Ts l t).due (running Ts l t).sections.statements) refl q
      go (machine.stopped k) q i =
          let r = rests t (λ g. let x : machine.stopped k ≡ machine.going = sym q ∙ g in let z : ◌≡◌ {A = ℕ} 0 1 = cc in absurd (omega arith)) in
          omega (arith, ap (λ (K : Stack). K.point.due) r, i k q)
      go machine.stuck q i = absurd ((ran.every-point t here).has-step q)

  pub ran-small : AnswerSmall (reads m.answer)
  ran-small =
      let p = ran.every-point limit (omega arith) in
      let a = at-point (running Ts l limit).sections (point_of Ts l limit).status (point_of Ts l limit).steps (point_of Ts l limit).due
      (few limit (omega arith)) p.has-step (due-few limit (omega arith)) in
      let e : reads m.answer ≡ answer_at Ts l limit = ran.ends.answer in
      rw e a

  -- The routine that it names is one of the set's.
  pub ran-within : m.routine < length (routines_of Ts)
  ran-within = omega (arith, (ran.every-point limit (omega arith)).frames, ran.ends.routine)

-- ---- a routine by itself

alone-formed : (T : List ℤ) → form_of T ≡ Ok (sections_of T) → AllFormed (routines_of (T ∷ []))
unfolding routines_of members
alone-formed T f zero l = record { formed = well-formed T (sections_of T) f; environment = refl }
alone-formed T f (suc n) l = absurd (omega arith)

run-faults-small : (T L : List ℤ) (l : Lent) (S : FactSets) → FirstSmall (run_faults T L l S)
unfolding run_faults routines_of members
run-faults-small T L l S =
    also-small (faults-small S [] T L)
    (λ e. entry-small (sections_of T) (environment_of T (sections_of T)) l.directory l.cells l.values l.origins
    (well-formed T (sections_of T) (faults-formed S [] T L e)).limits)

answer-small : (T L : List ℤ) (l : Lent) (S : FactSets) (limit : ℕ) (m : Leaves) (fs : List Refusal) → run_faults T L l S ≡ fs → RunAnswer T L l fs limit m
    → AnswerSmall (reads m.answer)
unfolding RunAnswer run_faults
answer-small T L l S limit m [] e a = ran-small (T ∷ []) l (alone-formed T (faults-formed S [] T L (no-first _ _ e))) a
answer-small T L l S limit m (f ∷ fs) e a = not-begun-small a ((run-faults-small T L l S).small f fs e)

-- WHAT A RUN ANSWERS IS SMALL.
pub run_small : (T L : List ℤ) (l : Lent) (limit : ℕ) (m : Leaves) → RunJudged T L l limit m → AnswerSmall (reads m.answer)
unfolding RunJudged
run_small T L l limit m j =
    answer-small T L l (by_chains j.decider) limit m (run_faults T L l (by_chains j.decider)) refl (j.by-each j.decider j.decides)
