-- A law of the ends, in the words of the code.
use Rattle.std.specs.Prelude.{ℕ, zero, suc, ◌+◌, ◌-◌, ◌/◌, ◌%◌, ◌<◌, ◌≤◌, ◌≡◌, Bool, List, get_or, length}
use Rattle.std.proofs.Math.Path.{refl}
use Rattle.std.proofs.Math.Bool.{true, false, cond}
use native.Mathlib.Omega.{arith}
use borrow.Author.Tests.{ltb-true, ltb-false, lt-ltb, le-ltb}
use Rattle.std.proofs.Math.Dec.{ltb}
use Rattle.arrays.specs.Tabulate.{tabulate}
use Rattle.arrays.specs.TabulateLaws.{any-default, get_d_tabulate, tabulate-alike}
use Rattle.rules.specs.BoundsRules.{nothing_known, own_rows, in_force, declared, element_size, is_string}
use Rattle.rules.specs.BoundsTrue.{own-declared}
use Rattle.rules.specs.declared.Environment.{Environment}
use Rattle.table.specs.declared.variables.End.{End}
use Rattle.entry.specs.Ends.{end_number, bounds_number, numbers_of, place_bounds, mark_number, after_bounds, ends_of, place_number}

-- A number of an end that is neither the first nor the second is its constant.
pub number-else : (e : End) (j : ℕ) → (j ≡ 0 → ⊥) → (j ≡ 1 → ⊥) → e.constant ≡ end_number e j
unfolding end_number
number-else e zero p q = absurd (p refl)
number-else e (suc zero) p q = absurd (q refl)
number-else e (suc (suc n)) p q = refl

-- The numbers of own bounds and those of the rows, one after the other.
abbrev pub joined : List ℕ → List ℕ → ℕ → ℕ
joined own laid i = cond (ltb i 96) (get_or own (i % 96) 0) (get_or laid ((i + 288) % 384) 0)

-- The sizes and the kinds of the pointers.
abbrev pub size_or_mark : List ℕ → List Bool → ℕ → ℕ
size_or_mark sizes strings i = cond (ltb i 496) (get_or sizes (i % 16) 0) (mark_number (get_or strings (i % 16) false))

abbrev pub laid_number : List ℕ → List ℕ → List ℕ → List Bool → ℕ → ℕ
laid_number own laid sizes strings i = cond (ltb i 480) (joined own laid i) (size_or_mark sizes strings i)

module _ (E : Environment) where
  number-laid : (i : ℕ) → i < 480 → joined (numbers_of 96 E.declared) (numbers_of 384 E.rows) i ≡ bounds_number (place_bounds E own_rows (i / 6)) (i % 6)
  unfolding numbers_of place_bounds
  number-laid i l = go (ltb i 96) refl
    where
      go : (b : Bool) → ltb i 96 ≡ b
          → cond b (get_or (tabulate 96 (λ n. bounds_number (get_or E.declared (n / 6) nothing_known) (n % 6))) (i % 96) 0)
          (get_or (tabulate 384 (λ n. bounds_number (get_or E.rows (n / 6) nothing_known) (n % 6))) ((i + 288) % 384) 0)
          ≡ bounds_number (cond (ltb (i / 6) 16) (declared (in_force E own_rows) (i / 6)) (get_or E.rows (i / 6 - 16) nothing_known)) (i % 6)
      go true q =
          let s : i < 96 = ltb-true i 96 q in
          let m : i % 96 ≡ i = omega arith in
          let d : i / 6 < 16 = omega arith in
          rw (
            m,
            get_d_tabulate 96 (λ (n : ℕ). bounds_number (get_or E.declared (n / 6) nothing_known) (n % 6)) i 0 s,
            lt-ltb (i / 6) 16 d,
            own-declared E (i / 6) d,
          )
      go false q =
          let s : 96 ≤ i = ltb-false i 96 q in
          let m : (i + 288) % 384 ≡ i - 96 = omega arith in
          let d : 16 ≤ i / 6 = omega arith in
          let u : (i - 96) / 6 ≡ i / 6 - 16 = omega arith in
          let v : (i - 96) % 6 ≡ i % 6 = omega arith in
          rw (
            m,
            get_d_tabulate 384 (λ (n : ℕ). bounds_number (get_or E.rows (n / 6) nothing_known) (n % 6)) (i - 96) 0 (omega arith),
            le-ltb (i / 6) 16 d,
            u,
            v,
          )

  size-laid : length E.sizes ≡ 16 → (i : ℕ) → 480 ≤ i → i < 512
      → size_or_mark E.sizes E.strings i ≡ after_bounds E i
  size-laid n i l u = go (ltb i 496) refl
    where
      go : (b : Bool) → ltb i 496 ≡ b → cond b (get_or E.sizes (i % 16) 0) (mark_number (get_or E.strings (i % 16) false))
          ≡ cond b (element_size E (i - 480)) (mark_number (is_string E (i - 496)))
      go true q =
          let s : i < 496 = ltb-true i 496 q in
          let m : i % 16 ≡ i - 480 = omega arith in
          rw m (any-default E.sizes (i - 480) 0 1 (omega arith))
      go false q =
          let s : 496 ≤ i = ltb-false i 496 q in
          let m : i % 16 ≡ i - 496 = omega arith in
          rw m refl

  place-laid : length E.sizes ≡ 16 → (i : ℕ) → i < 512
      → laid_number (numbers_of 96 E.declared) (numbers_of 384 E.rows) E.sizes E.strings i ≡ place_number E own_rows i
  place-laid n i l = go (ltb i 480) refl
    where
      go : (b : Bool) → ltb i 480 ≡ b → cond b (joined (numbers_of 96 E.declared) (numbers_of 384 E.rows) i) (size_or_mark E.sizes E.strings i)
          ≡ cond b (bounds_number (place_bounds E own_rows (i / 6)) (i % 6)) (after_bounds E i)
      go true q = number-laid i (ltb-true i 480 q)
      go false q = size-laid n i (ltb-false i 480 q) l

  pub ends-laid : length E.sizes ≡ 16
      → tabulate 512 (laid_number (numbers_of 96 E.declared) (numbers_of 384 E.rows) E.sizes E.strings) ≡ ends_of E own_rows
  unfolding ends_of
  ends-laid n = tabulate-alike 512 (place-laid n)
