-- A routine by itself is a set of one: a call there is refused by 19, so none is ever due, and the machine of the set makes the routine's own steps.
use Rattle.statements.specs.declared.Statement.{Statement}
use Prim.Native.Nat.{ℕ, zero, suc, ◌<◌}
use Rattle.std.specs.Prelude.{◌≡◌, Bool, ◌&&◌, ℤ, length, None, Ok, Option, Some}
use Rattle.std.proofs.Math.Path.{refl, ap}
use Rattle.std.proofs.Common.{◌∙◌, arith}
use Rattle.std.proofs.Math.Bool.{true, false}
use mathlib.Core.List.{List, [], ◌∷◌}
use Rattle.std.proofs.Math.Dec.{ltb}
use Rattle.statements.specs.Statements.{statement_at}
use Rattle.statements.specs.declared.CallSite.{CallSite}
use Rattle.statements.specs.declared.Statement.TheVariants.{Plain, If, While, Bundle, Call}
use Rattle.blocks.specs.Tree.{tree}
use Rattle.table.specs.Form.{form_of, sections_of}
use Rattle.table.specs.FormLaws.{well-formed}
use Rattle.listed.specs.ListForm.{list_faults}
use Rattle.rules.specs.AcceptedLaws.{clear}
use Rattle.rules.specs.Calls.{Routine}
use Rattle.rules.specs.CallLaws.{AllFormed}
use Rattle.rules.specs.Sets.{routine_of, before}
use Rattle.rules.specs.Verdict.{environment_of}
use Rattle.rules.specs.Stored.{new_state, block_faults, faults}
use Rattle.machine.specs.Machine.{Status, going, stopped, stuck, Point, step_if_due, next_point, start}
use Rattle.machine.specs.AlonePoints.{point_after}
use Rattle.machine.specs.Good.{Setting}
use Rattle.machine.specs.SetMachine.{stack, is_going, settled, own_step, stack_step, next_if, next_stack, start_stack, stack_after}
use Rattle.machine.specs.SetMachine as sets
use Rattle.machine.specs.SetMachine.{table_of}
use Rattle.machine.specs.Soundness.{Begun}
use Rattle.machine.specs.RunSound.{Invariant, no_call, point-kept, begun-setting, begun-walked, begun-invariant}
use Rattle.machine.specs.SetSound.{SetSetting, StackInvariant}

module _ (r : Routine) (D : List ℕ) where
  abbrev alone : List Routine
  alone = r ∷ []

  abbrev next : Status → Point → Point
  next s P = next_point r.table r.sections r.environment D s P

  abbrev NoCall : Point → Type 0
  NoCall P = (c : CallSite) → statement_at r.table r.sections P.due ≡ Some (Call c) → ⊥

  own_alone : (P : Point) → own_step alone D (stack [] 0 P) ≡ stack [] 0 (next P.status P)
  unfolding settled
  own_alone P = refl

  step-alone : (P : Point) → NoCall P → (s : Option Statement) → statement_at r.table r.sections P.due ≡ s
      → stack_step alone D s (stack [] 0 P) ≡ stack [] 0 (next P.status P)
  unfolding stack_step
  step-alone P n (Some (Call c)) e = absurd (n c e)
  step-alone P n (Some (Plain s)) e = own_alone P
  step-alone P n (Some (If c x y)) e = own_alone P
  step-alone P n (Some (While c x)) e = own_alone P
  step-alone P n (Some (Bundle x)) e = own_alone P
  step-alone P n None e = own_alone P

  next-alone : (P : Point) → NoCall P → next_stack alone D (stack [] 0 P) ≡ stack [] 0 (next P.status P)
  unfolding next_stack next_point
  next-alone P n = by-status P.status refl
    where
      due : (b : Bool) → ltb P.due r.sections.statements ≡ b → P.status ≡ going
          → next_if alone D b (stack [] 0 P) ≡ stack [] 0 (step_if_due r.table r.sections r.environment D b P)
      due true q g = step-alone P n (statement_at r.table r.sections P.due) refl ∙ ap (stack [] 0) (rw (g, q))
      due false q g = refl

      by-status : (s : Status) → P.status ≡ s
          → next_if alone D (is_going s && ltb P.due r.sections.statements) (stack [] 0 P) ≡ stack [] 0 (next s P)
      by-status going e = due (ltb P.due r.sections.statements) refl e
      by-status (stopped k) e = refl
      by-status stuck e = refl

  -- The states of a set of one are the points of its routine.
  pub after-alone : (P : Point) → ((t : ℕ) → NoCall (point_after r.table r.sections r.environment D t P)) → (t : ℕ)
      → stack_after alone D t (stack [] 0 P) ≡ stack [] 0 (point_after r.table r.sections r.environment D t P)
  unfolding stack_after point_after
  after-alone P n zero = refl
  after-alone P n (suc t) =
      ap (next_stack alone D) (after-alone P n t) ∙ next-alone (point_after r.table r.sections r.environment D t P) (n t)

  -- Of a routine that is accepted by itself.
  pub run_alone : (room : ℕ) (L : List ℤ) (S : Setting r.table r.sections r.environment D room)
      → block_faults r.environment L [] (tree r.table r.sections) new_state ≡ [] → (P : Point)
      → Invariant r.table r.sections r.environment D room L P → (t : ℕ)
      → stack_after alone D t (stack [] 0 P) ≡ stack [] 0 (point_after r.table r.sections r.environment D t P)
  run_alone room L S walked P i t =
      after-alone P (λ k. no_call r.table r.sections r.environment D room L S [] walked refl _
      (point-kept r.table r.sections r.environment D room L S [] walked refl k P i)) t

-- ---- a routine by itself that is begun is a set in its setting

module _ (T L : List ℤ) (formed : form_of T ≡ Ok (sections_of T)) (accepts : faults [] T L ≡ []) (D cs vs os : List ℕ)
    (begun : Begun (sections_of T) (environment_of T (sections_of T)) D cs vs os) where
  abbrev one : List Routine
  one = routine_of T ∷ []

  pub alone-setting : SetSetting one D (length cs) L
  unfolding before
  alone-setting = record { setting = setting; walked = walked; listed = listed; formed = is-formed; objects = objects; terminated = terminated }
    where
      setting : (n : ℕ) → n < 1 → Setting (table_of one D n) (sets.sections_of one D n) (sets.environment_of one D n) D (length cs)
      setting zero l = begun-setting T (sections_of T) L formed accepts D cs vs os begun
      setting (suc n) l = absurd (omega (arith, l))

      walked : (n : ℕ) → n < 1 → block_faults (sets.environment_of one D n) L (before n one) (tree (table_of one D n) (sets.sections_of one D n)) new_state ≡ []
      walked zero l = begun-walked T (sections_of T) L formed accepts D cs vs os begun
      walked (suc n) l = absurd (omega (arith, l))

      listed : (n : ℕ) → n < 1 → list_faults (table_of one D n) (sets.sections_of one D n) L ≡ []
      listed zero l = (clear [] T (sections_of T) L formed accepts).listed
      listed (suc n) l = absurd (omega (arith, l))

      is-formed : AllFormed one
      is-formed zero l = record { formed = well-formed T (sections_of T) formed; environment = refl }
      is-formed (suc n) l = absurd (omega (arith, l))

      objects : (n m : ℕ) → n < 1 → m < 1 → (sets.sections_of one D n).objects ≡ (sets.sections_of one D m).objects
      objects n m l k = let e : n ≡ m = omega arith in ap (λ (i : ℕ). (sets.sections_of one D i).objects) e

      terminated : (n m : ℕ) → n < 1 → m < 1 → (sets.environment_of one D n).terminated ≡ (sets.environment_of one D m).terminated
      terminated n m l k = let e : n ≡ m = omega arith in ap (λ (i : ℕ). (sets.environment_of one D i).terminated) e

  pub alone-begins : StackInvariant one D (length cs) L (start_stack one D cs vs os)
  unfolding start_stack
  alone-begins = record { known = omega arith; running = begun-invariant T (sections_of T) L formed accepts D cs vs os begun; waits = tt }

  -- The states are the points of the routine.
  pub alone-points : (t : ℕ) → stack_after one D t (start_stack one D cs vs os)
      ≡ stack [] 0 (point_after T (sections_of T) (environment_of T (sections_of T)) D t
      (start T (sections_of T) (environment_of T (sections_of T)) D cs vs os))
  unfolding start_stack
  alone-points t =
      run_alone (routine_of T) D (length cs) L (begun-setting T (sections_of T) L formed accepts D cs vs os begun)
      (begun-walked T (sections_of T) L formed accepts D cs vs os begun) (start T (sections_of T) (environment_of T (sections_of T)) D cs vs os)
      (begun-invariant T (sections_of T) L formed accepts D cs vs os begun) t
