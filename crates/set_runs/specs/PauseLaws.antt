-- Why a stretch of a routine's own steps ends, in the words of the code.
use Rattle.std.specs.Prelude.{ℕ, ◌≤◌, ◌<◌, ◌≡◌}
use Rattle.std.proofs.Math.Path.{refl}
use Rattle.std.proofs.Common.{◌∙◌}
use borrow.Author.Tests.{lt-ltb, le-ltb}
use Rattle.answers.specs.declared.stops.Check.{Check}
use Rattle.answers.specs.declared.stops.Outcome.{Outcome}
use Rattle.answers.specs.declared.stops.Outcome.TheVariants.{Done, Spent, Stopped, Refused}
use Rattle.answers.specs.declared.refusals.Refusal.{Refusal}
use Rattle.set_runs.specs.Lent.{halts, pause_of}
use Rattle.set_runs.specs.declared.Level.TheVariants.{Returns}
use Rattle.set_runs.specs.declared.levels.Pause.{Pause}
use Rattle.set_runs.specs.declared.levels.Pause.TheVariants.{Leaves, Calls}

module _ (limit n : ℕ) {o : Outcome} where
  pub pause-done : {s : ℕ} → o ≡ Done s → Leaves (Returns s) ≡ pause_of limit n o
  unfolding pause_of
  pause-done e = rw e refl

  pub pause-calls : {s a : ℕ} → o ≡ Spent s a → s < limit → Calls s a ≡ pause_of limit n o
  unfolding pause_of
  pause-calls {s} {a} e l = rw (e, lt-ltb s limit l) refl

  pub pause-spent : {s a : ℕ} {r : Pause} → o ≡ Spent s a → limit ≤ s → r ≡ halts (Spent s a) n → r ≡ pause_of limit n o
  unfolding pause_of
  pause-spent {s} {a} e l f = f ∙ rw (e, le-ltb s limit l) refl

  pub pause-stopped : {s : ℕ} {k : Check} {r : Pause} → o ≡ Stopped s k → r ≡ halts o n → r ≡ pause_of limit n o
  unfolding pause_of
  pause-stopped e f = f ∙ rw e refl

  pub pause-refused : {x : Refusal} {r : Pause} → o ≡ Refused x → r ≡ halts o n → r ≡ pause_of limit n o
  unfolding pause_of
  pause-refused e f = f ∙ rw e refl
