-- A run of an accepted set that the entry does not refuse is begun; so of it, too, it is left to show where it ends.
use Rattle.std.specs.Prelude.{ℕ, ◌-◌, ◌≤◌, ◌<◌, ◌≡◌, ◌≢◌, true, List, [], leb, ℤ, length, get_or}
use Rattle.std.proofs.Common.{sym, ap, ◌∙◌, arith, leb-true}
use Rattle.sums.specs.Numbers.{max_value}
use Rattle.words.specs.SectionsLaws.{both}
use Rattle.rules.specs.BoundsRules.{is_pointer}
use Rattle.rules.specs.Calls.{Routine, routine_at}
use Rattle.rules.specs.EnvironmentLaws.{environment-declares}
use Rattle.rules.specs.Sets.{routines_of, count_right, AllAccepted}
use Rattle.rules.proofs.SetLaws.{all-formed, length-routines}
use Rattle.rules.specs.declared.Environment.{Environment}
use Rattle.machine.specs.Machine.{stuck}
use Rattle.machine.specs.Soundness.{Begun}
use Rattle.machine.specs.SetRun.{set-setting, start-invariant}
use Rattle.interpreter.specs.BegunLaws.{entry-begun}
use Rattle.interpreter.specs.StartLaws.{admitted}
use Rattle.interpreter.specs.Claim.{Lent, Leaves, last_number, entry_faults, state_of, EndsAt, Ran}
use Rattle.interpreter.specs.PointLaws as points

-- The pointers of the last routine are variables.
pointers-below : (Ts : List (List ℤ)) → AllAccepted Ts → (n : ℕ) → n < length (routines_of Ts) → (p : ℕ)
    → is_pointer (routine_at (routines_of Ts) n).environment p ≡ true → p < (routine_at (routines_of Ts) n).sections.variables
pointers-below Ts a n l p e =
    let g = all-formed Ts a n l in
    (environment-declares _ _ g.formed).below p (ap (λ (X : Environment). is_pointer X p) (sym g.environment) ∙ e)

pub last_within : (Ts : List (List ℤ)) → AllAccepted Ts → length (routines_of Ts) - 1 < length (routines_of Ts)
unfolding count_right
last_within Ts a =
    let k : 1 ≤ length Ts = leb-true 1 (length Ts) (both (leb 1 (length Ts)) (leb (length Ts) 8) a.count).0 in
    omega (arith, k, length-routines Ts)

module _ (Ts : List (List ℤ)) (l : Lent) (accepted : AllAccepted Ts) (entered : entry_faults Ts l ≡ [])
    (small-values : (x : ℕ) → get_or l.values x 0 ≤ max_value) (small-cells : (i : ℕ) → get_or l.cells i 0 ≤ max_value) where
  abbrev last : Routine
  last = routine_at (routines_of Ts) (last_number Ts)

  abbrev D : List ℕ
  D = l.directory

  pub begun : Begun last.sections last.environment D l.cells l.values l.origins
  begun = entry-begun last.sections last.environment D l.cells l.values l.origins
      (admitted last.sections last.environment D l.cells l.values l.origins entered) small-values small-cells few
    where
      few : (p : ℕ) → is_pointer (routine_at (routines_of Ts) (last_number Ts)).environment p ≡ true
          → p < (routine_at (routines_of Ts) (last_number Ts)).sections.variables
      few p e = pointers-below Ts accepted (last_number Ts) (last_within Ts accepted) p e

  pub unstuck : (t : ℕ) → (state_of Ts l t).point.status ≢ stuck
  unstuck = points.unstuck Ts l [] (set-setting Ts accepted D l.cells l.values l.origins begun)
      (start-invariant Ts accepted D l.cells l.values l.origins begun) begun.origins

  pub ends-ran : (limit : ℕ) (m : Leaves) → EndsAt Ts l limit m → Ran Ts l [] limit m
  ends-ran limit m x =
      points.ends-ran Ts l [] (set-setting Ts accepted D l.cells l.values l.origins begun)
      (start-invariant Ts accepted D l.cells l.values l.origins begun) begun.origins limit m x
