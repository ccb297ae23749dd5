-- Laws of the checks and of conditions, in the words of the code.
use Rattle.std.specs.Prelude.{ℕ, zero, suc, ◌+◌, ◌*◌, ◌<◌, ◌≡◌, Bool, ◌||◌, cond, ◌&&◌, List, leb, eqb}
use Rattle.std.proofs.Math.Path.{refl}
use Rattle.std.proofs.Math.Bool.{true, false, not, and-false, or-false}
use Rattle.std.proofs.Common.{arith, le-ltb, ne_eqb}
use Rattle.std.proofs.lemmas.Bool.{lt-leb}
use Rattle.std.proofs.Math.Dec.{ltb}
use Rattle.sums.specs.Numbers.{bias, max_value}
use Rattle.arrays.specs.TabulateLaws.{get_d_tabulate}
use Rattle.rules.specs.BoundsRules.{nothing_known, element_size}
use Rattle.rules.specs.declared.Environment.{Environment}
use Rattle.conditions.specs.Conditions.{relates}
use Rattle.machine.specs.Machine.{value, end_value, Failing, none, upper_end, first_of, access_failing, arithmetic_failing, beyond, terminator_failing}
use Rattle.machine.specs.Machine.{store_failing}
use Rattle.checks.specs.Checked.{end_in, bounds_in, declared_in, step_unless, size_in, string_in}
use Rattle.answers.specs.declared.stops.Check.TheVariants.{NullAccess, OutOfBounds, NullArithmetic, AddressRange, Terminator}
use Rattle.checks.specs.declared.Step.TheVariants.{Go, Stop}

pub relates-else : (r a b : ℕ) → (r ≡ 0 → ⊥) → (r ≡ 1 → ⊥) → (r ≡ 2 → ⊥) → (r ≡ 3 → ⊥) → (r ≡ 4 → ⊥) → not (eqb a b) ≡ relates r a b
unfolding relates
relates-else zero x y a b c d e = absurd (a refl)
relates-else (suc zero) x y a b c d e = absurd (b refl)
relates-else (suc (suc zero)) x y a b c d e = absurd (c refl)
relates-else (suc (suc (suc zero))) x y a b c d e = absurd (d refl)
relates-else (suc (suc (suc (suc zero)))) x y a b c d e = absurd (e refl)
relates-else (suc (suc (suc (suc (suc r))))) x y a b c d e = refl

-- The first of the checks that fails.
module _ (at next : ℕ) where
  access-picked : (x y z : Bool) → cond x (Stop (NullAccess at))
      (cond y (Stop (OutOfBounds at)) (cond z (Stop (Terminator at)) (Go next))) ≡ step_unless (first_of x 2 (first_of y 3 (first_of z 6 none))) at next
  unfolding step_unless
  access-picked true y z = refl
  access-picked false true z = refl
  access-picked false false true = refl
  access-picked false false false = refl

  arithmetic-picked : (x y : Bool)
      → cond x (Stop (NullArithmetic at)) (cond y (Stop (AddressRange at)) (Go next)) ≡ step_unless (first_of x 4 (first_of y 5 none)) at next
  unfolding step_unless
  arithmetic-picked true y = refl
  arithmetic-picked false true = refl
  arithmetic-picked false false = refl

  -- Checks 4 and 5.
  pub arithmetic-step : (q a : ℕ) →
      cond (eqb q 0) (Stop (NullArithmetic at))
      (cond (leb a bias || ltb (bias + max_value) a) (Stop (AddressRange at)) (Go next)) ≡ step_unless (arithmetic_failing q a) at next
  unfolding arithmetic_failing
  arithmetic-step q a = arithmetic-picked (eqb q 0) (leb a bias || ltb (bias + max_value) a)

  -- Checks 2, 3 and 6, by the ends in the slice W.
  pub access-step : (W vs : List ℕ) (p a x : ℕ) → p < 16 →
      cond (eqb (value vs p) 0) (Stop (NullAccess at))
      (cond (ltb a (end_value vs (size_in W p) (end_in W (6 * p)))
      || beyond (string_in W p) (end_value vs (size_in W p) (end_in W (6 * p + 3))) a) (Stop (OutOfBounds at))
      (cond (eqb a (end_value vs (size_in W p) (end_in W (6 * p + 3))) && not (eqb x 0)) (Stop (Terminator at)) (Go next)))
      ≡ step_unless (store_failing (declared_in W) vs p a x) at next
  unfolding access_failing terminator_failing declared_in
  access-step W vs p a x few =
      rw (get_d_tabulate 16 (bounds_in W) p nothing_known few, get_d_tabulate 16 (string_in W) p false few, get_d_tabulate 16 (size_in W) p 1 few)
      (access-picked (eqb (value vs p) 0)
      (ltb a (end_value vs (size_in W p) (end_in W (6 * p))) || beyond (string_in W p) (end_value vs (size_in W p) (end_in W (6 * p + 3))) a)
      (eqb a (end_value vs (size_in W p) (end_in W (6 * p + 3))) && not (eqb x 0)))

  -- Below the upper end neither the kind nor what is stored matters.
  pub below_step : (W vs : List ℕ) (p a x : ℕ) → p < 16 → a < end_value vs (size_in W p) (end_in W (6 * p + 3)) →
      cond (eqb (value vs p) 0) (Stop (NullAccess at))
      (cond (ltb a (end_value vs (size_in W p) (end_in W (6 * p)))) (Stop (OutOfBounds at)) (Go next))
      ≡ step_unless (store_failing (declared_in W) vs p a x) at next
  below_step W vs p a x few below =
      rw (
        not_beyond (string_in W p) _ a below,
        ne_eqb a (end_value vs (size_in W p) (end_in W (6 * p + 3))) (λ e. omega (arith, below, e)),
        or-false (ltb a (end_value vs (size_in W p) (end_in W (6 * p)))),
      ) at (access-step W vs p a x few)
    where
      not_beyond : (s : Bool) (u b : ℕ) → b < u → beyond s u b ≡ false
      not_beyond true u b l = le-ltb u b (omega (arith, l))
      not_beyond false u b l = lt-leb u b l

-- The element size of a pointer, as the slice has it.
pub size-in : (W : List ℕ) (p : ℕ) → p < 16 → element_size (declared_in W) p ≡ size_in W p
unfolding declared_in
size-in W p few = get_d_tabulate 16 (size_in W) p 1 few

-- A load is checked as the store of 0.
pub zero-passes : (E : Environment) (vs : List ℕ) (p a : ℕ) → terminator_failing E vs p a 0 ≡ none
unfolding terminator_failing
zero-passes E vs p a = rw (and-false (eqb a (upper_end E vs p)))

-- No check fails.
pub passed-step : (f : Failing) (at next : ℕ) → f ≡ none → Go next ≡ step_unless f at next
unfolding step_unless
passed-step f at next e = rw e refl
