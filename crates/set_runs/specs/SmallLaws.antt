-- What a run of a set answers is small: the place and the pointer of a refusal, the statement, and the number of the routine.
use Rattle.std.specs.Prelude.{ℕ, ◌^◌, ◌<◌, ◌≡◌, refl, ◌⊎◌, Bool, true, false, List, [], ◌∷◌, ℤ, length}
use Rattle.std.proofs.Common.{⊎_elim, arith}
use Rattle.answers.specs.Answers.{reads}
use Rattle.answers.specs.declared.refusals.Refusal.{Refusal}
use Rattle.rules.specs.Calls.{routine_at}
use Rattle.rules.specs.Sets.{routines_of, count_right, FirstRefused, AllAccepted}
use Rattle.rules.proofs.SetLaws.{length-routines, all-formed}
use Rattle.entry.specs.SmallLaws.{entry-small}
use Rattle.interpreter.specs.SmallLaws.{AnswerSmall, not-begun-small, ran-small, ran-within}
use Rattle.sets.specs.SmallLaws.{count-few, count-some, count_small, first_small, refused-or-accepted}
use Rattle.interpreter.specs.Claim.{Lent, Leaves, last_number, entry_faults, SetRunJudged}

module _ (Ts : List (List ℤ)) (l : Lent) (limit : ℕ) (m : Leaves) (j : SetRunJudged Ts l limit m) where
  accepted-small : AllAccepted Ts → AnswerSmall (reads m.answer) × (m.routine < 2 ^ 32)
  accepted-small a = go (entry_faults Ts l) refl
    where
      last : last_number Ts < length (routines_of Ts)
      last = omega (arith, length-routines Ts, count-some Ts a.count)

      go : (fs : List Refusal) → entry_faults Ts l ≡ fs → AnswerSmall (reads m.answer) × (m.routine < 2 ^ 32)
      go [] e =
          let r = j.ran a e in
          (ran-small Ts l (all-formed Ts a) r, omega (arith, ran-within Ts l (all-formed Ts a) r, length-routines Ts, count-few Ts a.count))
      go (f ∷ fs) e =
          let b = j.not_entered a f fs e in
          let s = (entry-small (routine_at (routines_of Ts) (last_number Ts)).sections (routine_at (routines_of Ts) (last_number Ts)).environment l.directory
          l.cells l.values l.origins (all-formed Ts a (last_number Ts) last).formed.limits).small f fs e in
          (not-begun-small b s, omega (arith, b.routine, last, length-routines Ts, count-few Ts a.count))

  -- WHAT A RUN OF A SET ANSWERS IS SMALL.
  pub set-run-small : AnswerSmall (reads m.answer) × (m.routine < 2 ^ 32)
  set-run-small = go (count_right Ts) refl
    where
      go : (b : Bool) → count_right Ts ≡ b → AnswerSmall (reads m.answer) × (m.routine < 2 ^ 32)
      go false e = let b = j.wrong-count e in (not-begun-small b count_small, omega (arith, b.routine))
      go true e =
          ⊎_elim (λ (f : (n : ℕ) × (r : Refusal) × FirstRefused Ts n r).
          let b = j.refused f.0 f.1 f.2 in
          let s = first_small Ts f.0 f.1 f.2 in
          (not-begun-small b s.0, omega (arith, b.routine, s.1)))
          (λ (a : AllAccepted Ts). accepted-small a) (refused-or-accepted Ts e)
