-- Laws of the ends laid out for the loop: the checks by them are the checks by what is declared.
use Rattle.table.specs.declared.variables.BoundsRow.{BoundsRow}
use Rattle.table.specs.declared.variables.Variable.{Variable}
use Prim.Native.Nat.{ℕ, zero, suc, ◌+◌, ◌-◌, ◌*◌, ◌/◌, ◌%◌, ◌^◌, ◌<◌, ◌≤◌}
use Rattle.std.specs.Prelude.{◌≡◌, ◌≢◌, Bool, ◌||◌, cond, ◌&&◌, List, [], ◌∷◌, eqb, ℤ, get_or, set, None, Option, Some}
use Rattle.std.proofs.Math.Path.{refl, ap, ap₂}
use Rattle.std.proofs.Common.{◌∙◌, sym, add-one, get_or-set_same, get_or-set_other}
use Rattle.std.proofs.Math.Decide.{ℕ_discrete}
use Rattle.std.proofs.Math.Bool.{true, false, not}
use native.Mathlib.Omega.{arith}
use borrow.Author.Tests.{lt-ltb, le-ltb, ltb-true, ltb-false}
use Rattle.std.proofs.Math.Dec.{ltb}
use Rattle.std.proofs.Math.ListN.{length, get_or-eq_default}
use Rattle.sums.specs.Numbers.{bias}
use Rattle.arrays.specs.Tabulate.{tabulate}
use Rattle.arrays.specs.TabulateLaws.{length-tabulate, get_d_tabulate}
use Rattle.words.specs.Typed.{IsIndex, missing, given}
use Rattle.words.specs.Sections.{Limits}
use Rattle.words.specs.declared.sections.Sections.{Sections}
use Rattle.statements.specs.Typed.{SimpleTyped}
use Rattle.statements.specs.declared.Simple.{Simple}
use Rattle.statements.specs.declared.Simple.TheVariants.{Literal, AddConstant, Arithmetic, Null, Address, PointerOffset}
use Rattle.statements.specs.declared.Simple.TheVariants.{PointerIndex, Load, Store, Check as Test, Declare}
use Rattle.table.specs.Typed.{EndTyped}
use Rattle.table.specs.Variables.{variable_at, row_at}
use Rattle.table.specs.VariableLaws.{variable-read-typed, variable-read-limits, row-read-typed}
use Rattle.table.specs.declared.variables.End.{End}
use Rattle.table.specs.declared.variables.Variable.TheVariants.{Integer, Pointer}
use Rattle.rules.specs.BoundsRules.{nothing_known, declared, row_bound, in_force, rows_after, element_size, sized, is_string}
use Rattle.rules.specs.BoundsTrue.{declared-in-force}
use Rattle.rules.specs.EnvironmentLaws.{sizes-small}
use Rattle.rules.specs.Verdict.{bounds_of, environment_of, row_bounds}
use Rattle.rules.specs.declared.Bounds.{Bounds}
use Rattle.rules.specs.declared.Environment.{Environment}
use Rattle.machine.specs.Machine.{value, end_value, end_of, lower_end, upper_end, address, none, first_of, access_failing, load_failing}
use Rattle.machine.specs.Machine.{store_failing, failing, indexed, arithmetic_failing, Failing, beyond, terminator_failing}
use Rattle.entry.specs.Ends.{end_number, bounds_number, ends_of, place_bounds, after_bounds, place_number, mark_number}
use Rattle.checks.specs.Checked.{bounds_in, declared_in, size_in, string_in, Named}
use Rattle.checks.specs.CheckLaws.{size-in}
use Rattle.steps.specs.Bare.{copied, ends_after}
use Rattle.steps.specs.CopiedLaws.{copied-long, copied-inside, copied-outside}

pub ends-long : (E : Environment) (R : List ℕ) → length (ends_of E R) ≡ 512
unfolding ends_of
ends-long E R = length-tabulate 512 (place_number E R)

-- The number at a place.
number_at : (E : Environment) (R : List ℕ) (i q j : ℕ) → i ≡ 6 * q + j → j < 6 → q < 80 → get_or (ends_of E R) i 0 ≡ bounds_number (place_bounds E R q) j
unfolding ends_of
number_at E R i q j e l b =
    let d : i / 6 ≡ q = omega arith in
    let m : i % 6 ≡ j = omega arith in
    get_d_tabulate 512 (place_number E R) i 0 (omega arith)
    ∙ ap (λ (t : Bool). cond t (bounds_number (place_bounds E R (i / 6)) (i % 6)) (after_bounds E i)) (lt-ltb i 480 (omega arith))
    ∙ ap₂ (λ (x k : ℕ). bounds_number (place_bounds E R x) k) d m

-- The numbers after those of the bounds, the same for all rows.
after-bounds : (E : Environment) (R : List ℕ) (i : ℕ) → 480 ≤ i → i < 512 → get_or (ends_of E R) i 0 ≡ after_bounds E i
unfolding ends_of
after-bounds E R i l u =
    get_d_tabulate 512 (place_number E R) i 0 u
    ∙ ap (λ (t : Bool). cond t (bounds_number (place_bounds E R (i / 6)) (i % 6)) (after_bounds E i)) (le-ltb i 480 l)

-- Point 10: the element size of a pointer.
size_number : (E : Environment) (R : List ℕ) (p : ℕ) → p < 16 → size_in (ends_of E R) p ≡ element_size E p
size_number E R p l =
    let e : 480 + p - 480 ≡ p = omega arith in
    after-bounds E R (480 + p) (omega arith) (omega arith)
    ∙ ap (λ (t : Bool). cond t (element_size E (480 + p - 480)) (mark_number (is_string E (480 + p - 496)))) (lt-ltb (480 + p) 496 (omega arith))
    ∙ ap (element_size E) e

size_same : (E : Environment) (R : List ℕ) (p : ℕ) → p < 16 → element_size (declared_in (ends_of E R)) p ≡ element_size E p
size_same E R p l = size-in (ends_of E R) p l ∙ size_number E R p l

-- Point 7: the kind of a pointer.
mark-read : (b : Bool) → eqb (mark_number b) 1 ≡ b
mark-read true = refl
mark-read false = refl

string-same : (E : Environment) (R : List ℕ) (p : ℕ) → p < 16 → is_string (declared_in (ends_of E R)) p ≡ is_string E p
unfolding declared_in
string-same E R p few =
    let e : 496 + p - 496 ≡ p = omega arith in
    get_d_tabulate 16 (string_in (ends_of E R)) p false few
    ∙ ap (λ (n : ℕ). eqb n 1) (after-bounds E R (496 + p) (omega arith) (omega arith)
    ∙ ap (λ (t : Bool). cond t (element_size E (496 + p - 480)) (mark_number (is_string E (496 + p - 496)))) (le-ltb (496 + p) 496 (omega arith)))
    ∙ mark-read (is_string E (496 + p - 496))
    ∙ ap (is_string E) e

place-pointer : (E : Environment) (R : List ℕ) (p : ℕ) → p < 16 → place_bounds E R p ≡ declared (in_force E R) p
unfolding place_bounds
place-pointer E R p l = rw (lt-ltb p 16 l)

place-row : (E : Environment) (R : List ℕ) (r p j : ℕ) → bounds_number (place_bounds E R (16 + r)) j ≡ bounds_number (row_bound E (suc r) p) j
unfolding place_bounds row_bound bounds_number
place-row E R r p j = let e : 16 + r - 16 ≡ r = omega arith in rw (le-ltb (16 + r) 16 (omega arith), e)

-- ---- the ends of a pointer

module _ (E : Environment) (R vs : List ℕ) (p : ℕ) (few : p < 16) where
  number : (i j : ℕ) → i ≡ 6 * p + j → j < 6 → get_or (ends_of E R) i 0 ≡ bounds_number (declared (in_force E R) p) j
  number i j e l = number_at E R i p j e l (omega arith) ∙ ap (λ (b : Bounds). bounds_number b j) (place-pointer E R p few)

  sum_same : (s t a b x y k l : ℕ) → s ≡ t → a ≡ x → b ≡ y → k ≡ l → value vs a + s * value vs b + k ≡ value vs x + t * value vs y + l
  sum_same s t a b x y k l z p q r = rw (z, p, q, r)

  lower-same : lower_end (declared_in (ends_of E R)) vs p ≡ lower_end (in_force E R) vs p
  unfolding declared_in bounds_number end_number
  lower-same =
      ap (λ (b : Bounds). end_value vs (element_size (declared_in (ends_of E R)) p) (end_of b.lower))
      (get_d_tabulate 16 (bounds_in (ends_of E R)) p nothing_known few)
      ∙ sum_same _ _ _ _ _ _ _ _ (size_same E R p few) (number (6 * p) 0 (omega arith) (omega arith)) (number (6 * p + 1) 1 refl (omega arith))
      (number (6 * p + 2) 2 refl (omega arith))

  upper-same : upper_end (declared_in (ends_of E R)) vs p ≡ upper_end (in_force E R) vs p
  unfolding declared_in bounds_number end_number
  upper-same =
      ap (λ (b : Bounds). end_value vs (element_size (declared_in (ends_of E R)) p) (end_of b.upper))
      (get_d_tabulate 16 (bounds_in (ends_of E R)) p nothing_known few)
      ∙ sum_same _ _ _ _ _ _ _ _ (size_same E R p few) (number (6 * p + 3) 3 refl (omega arith)) (number (6 * p + 3 + 1) 4 (omega arith) (omega arith))
      (number (6 * p + 3 + 2) 5 (omega arith) (omega arith))

  access-same : (a : ℕ) (rest : Failing) → access_failing (declared_in (ends_of E R)) vs p a rest ≡ access_failing (in_force E R) vs p a rest
  unfolding access_failing
  access-same a rest =
      ap₂ (λ (l u : ℕ). first_of (eqb (value vs p) 0) 2 (first_of (ltb a l || beyond (is_string (declared_in (ends_of E R)) p) u a) 3 rest)) lower-same
      upper-same
      ∙ ap (λ (b : Bool). first_of (eqb (value vs p) 0) 2
      (first_of (ltb a (lower_end (in_force E R) vs p) || beyond b (upper_end (in_force E R) vs p) a) 3 rest)) (string-same E R p few)

  terminator-same : (a x : ℕ) → terminator_failing (declared_in (ends_of E R)) vs p a x ≡ terminator_failing (in_force E R) vs p a x
  unfolding terminator_failing
  terminator-same a x = ap (λ (u : ℕ). first_of (eqb a u && not (eqb x 0)) 6 none) upper-same

-- Results by the laid-out sizes are those by the declared ones.
pub address-laid : (E : Environment) (R vs : List ℕ) (p i k : ℕ) → p < 16 → address (declared_in (ends_of E R)) vs p i k ≡ address E vs p i k
address-laid E R vs p i k few = ap (λ (s : ℕ). value vs p + s * value vs i + k) (size_same E R p few)

pub indexed-laid : (E : Environment) (R vs : List ℕ) (q i : ℕ) → q < 16 → indexed (declared_in (ends_of E R)) vs q i ≡ indexed E vs q i
indexed-laid E R vs q i few = ap (λ (s : ℕ). value vs q + s * value vs i) (size_same E R q few)

-- The first check that fails is the same.
pub failing-same : (T : List ℤ) (h : Sections) (E : Environment) (R vs : List ℕ) (s : Simple) → Limits h → SimpleTyped T h s
    → failing (declared_in (ends_of E R)) vs s ≡ failing (in_force E R) vs s
unfolding failing
failing-same T h E R vs (Literal x k) l t = refl
failing-same T h E R vs (AddConstant x y k) l t = refl
failing-same T h E R vs (Arithmetic x y z op) l t = refl
failing-same T h E R vs (Null p) l t = refl
failing-same T h E R vs (Address p o) l t = refl
failing-same T h E R vs (PointerOffset p q k) l t = refl
failing-same T h E R vs (PointerIndex p q i) l t =
    ap (λ (s : ℕ). arithmetic_failing (value vs q) (value vs q + s * value vs i + bias)) (size_same E R q (omega (arith, t.source.below, l.variables)))
failing-same T h E R vs (Load x p i k) l t =
    let few : p < 16 = omega (arith, t.pointer.below, l.variables) in
    ap (λ (a : ℕ). load_failing (declared_in (ends_of E R)) vs p a) (address-laid E R vs p i k few) ∙ access-same E R vs p few (address E vs p i k) none
failing-same T h E R vs (Store p i k x) l t =
    let few : p < 16 = omega (arith, t.pointer.below, l.variables) in
    ap (λ (a : ℕ). store_failing (declared_in (ends_of E R)) vs p a (value vs x)) (address-laid E R vs p i k few)
    ∙ access-same E R vs p few (address E vs p i k) _
    ∙ ap (access_failing (in_force E R) vs p (address E vs p i k)) (terminator-same E R vs p few (address E vs p i k) (value vs x))
failing-same T h E R vs (Test c) l t = refl
failing-same T h E R vs (Declare p r) l t = refl

-- ---- point 2: the copied ends are those of the row in force

same-list : (l m : List ℕ) → length l ≡ length m → ((i : ℕ) → i < length l → get_or l i 0 ≡ get_or m i 0) → l ≡ m
same-list [] [] e f = refl
same-list [] (y ∷ ys) e f = absurd (omega arith)
same-list (x ∷ xs) [] e f = absurd (omega arith)
same-list (x ∷ xs) (y ∷ ys) e f = ap₂ (λ (n : ℕ) (l : List ℕ). n ∷ l) (f 0 (omega arith)) (same-list xs ys (omega arith) (λ i l. f (suc i) (omega arith)))

-- Another place keeps its bounds.
place_other : (E : Environment) (R : List ℕ) (p v q : ℕ) → q ≢ p → place_bounds E (set R p v) q ≡ place_bounds E R q
unfolding place_bounds
place_other E R p v q n = go (ltb q 16) refl
  where
    go : (b : Bool) → ltb q 16 ≡ b
        → cond b (declared (in_force E (set R p v)) q) (get_or E.rows (q - 16) nothing_known) ≡ cond b (declared (in_force E R) q)
        (get_or E.rows (q - 16) nothing_known)
    go true l =
        declared-in-force E (set R p v) q (ltb-true q 16 l) ∙ ap (λ (k : ℕ). row_bound E k q) (get_or-set_other R p q v 0 n)
        ∙ sym (declared-in-force E R q (ltb-true q 16 l))
    go false l = refl

place-own : (E : Environment) (R : List ℕ) (p r : ℕ) → p < 16 → length R ≡ 16 → place_bounds E (set R p (r + 1)) p ≡ row_bound E (suc r) p
place-own E R p r l e =
    let s : get_or (set R p (r + 1)) p 0 ≡ suc r = get_or-set_same R p (r + 1) 0 (omega arith) ∙ add-one r in
    place-pointer E (set R p (r + 1)) p l ∙ declared-in-force E (set R p (r + 1)) p l ∙ ap (λ (k : ℕ). row_bound E k p) s

-- The ends after a kind 14 are those of the rows after it.
ends-declared : (E : Environment) (R : List ℕ) (p r : ℕ) → p < 16 → r < 64 → length R ≡ 16 → copied 6 p r (ends_of E R) ≡ ends_of E (set R p (r + 1))
ends-declared E R p r l b e =
    same-list (copied 6 p r (ends_of E R)) (ends_of E (set R p (r + 1))) (copied-long p r (ends_of E R) 6 ∙ ends-long E R ∙ sym (ends-long E (set R p (r + 1))))
    (λ i m. by-range i (omega (arith, m, copied-long p r (ends_of E R) 6, ends-long E R)) (ltb i 480) refl)
  where
    by_place : (i : ℕ) → i < 480 → Dec (i / 6 ≡ p) → get_or (copied 6 p r (ends_of E R)) i 0 ≡ get_or (ends_of E (set R p (r + 1))) i 0
    by_place i m (yes s) =
        let j : ℕ = i % 6 in
        let k : i % 6 < 6 = omega arith in
        let g : i ≡ 6 * p + i % 6 = omega arith in
        ap (λ (n : ℕ). get_or (copied 6 p r (ends_of E R)) n 0) g
        ∙ copied-inside p r (ends_of E R) 6 (i % 6) k (omega (arith, ends-long E R))
        ∙ number_at E R (96 + 6 * r + i % 6) (16 + r) (i % 6) (omega arith) k (omega arith)
        ∙ place-row E R r p (i % 6)
        ∙ ap (λ (x : Bounds). bounds_number x (i % 6)) (sym (place-own E R p r l e))
        ∙ sym (number_at E (set R p (r + 1)) i p (i % 6) g k (omega arith))
    by_place i m (no n) =
        let q : i / 6 < 80 = omega arith in
        let k : i % 6 < 6 = omega arith in
        let g : i ≡ 6 * (i / 6) + i % 6 = omega arith in
        copied-outside p r (ends_of E R) 6 i (λ j c s. n (omega arith))
        ∙ number_at E R i (i / 6) (i % 6) g k q
        ∙ ap (λ (x : Bounds). bounds_number x (i % 6)) (sym (place_other E R p (r + 1) (i / 6) n))
        ∙ sym (number_at E (set R p (r + 1)) i (i / 6) (i % 6) g k q)

    -- The sizes and the kinds of the pointers stay.
    by-range : (i : ℕ) → i < 512 → (b : Bool) → ltb i 480 ≡ b → get_or (copied 6 p r (ends_of E R)) i 0 ≡ get_or (ends_of E (set R p (r + 1))) i 0
    by-range i m true q = by_place i (ltb-true i 480 q) (ℕ_discrete (i / 6) p)
    by-range i m false q =
        let s : 480 ≤ i = ltb-false i 480 q in
        copied-outside p r (ends_of E R) 6 i (λ j c z. omega arith) ∙ after-bounds E R i s m ∙ sym (after-bounds E (set R p (r + 1)) i s m)

pub ends-after : (T : List ℤ) (h : Sections) (E : Environment) (R : List ℕ) (s : Simple) → Limits h → SimpleTyped T h s → length R ≡ 16
    → ends_after s (ends_of E R) ≡ ends_of E (rows_after s R)
unfolding ends_after rows_after
ends-after T h E R (Literal x k) l t e = refl
ends-after T h E R (AddConstant x y k) l t e = refl
ends-after T h E R (Arithmetic x y z op) l t e = refl
ends-after T h E R (Null p) l t e = refl
ends-after T h E R (Address p o) l t e = refl
ends-after T h E R (PointerOffset p q k) l t e = refl
ends-after T h E R (PointerIndex p q i) l t e = refl
ends-after T h E R (Load x p i k) l t e = refl
ends-after T h E R (Store p i k x) l t e = refl
ends-after T h E R (Test c) l t e = refl
ends-after T h E R (Declare p r) l t e = ends-declared E R p r (omega (arith, t.pointer.below, l.variables)) (omega (arith, t.row, l.rows)) e

-- The numbers of bounds do not speak of their size.
sized-number : (s : ℕ) (b : Bounds) (j : ℕ) → bounds_number (sized s b) j ≡ bounds_number b j
unfolding bounds_number
sized-number s b j = refl

-- ---- the ends of a table are small, so that no sum of an end wraps, and what they name has a slot

-- The number j of an end, and of bounds: the last of each end is its constant.
abbrev EndNumber : ℕ → ℕ → Type 0
EndNumber j x = (x < 2 ^ 34) × (j < 2 → x ≤ 16)

abbrev BoundsNumber : ℕ → ℕ → Type 0
BoundsNumber j x = (x < 2 ^ 34) × (j < 6 → j % 3 < 2 → x ≤ 16)

abbrev EndsNumber : ℕ → ℕ → Type 0
EndsNumber i x = (x < 2 ^ 34) × (i % 3 < 2 → x ≤ 16)

module _ (T : List ℤ) (h : Sections) where
  index-fits : (i : ℕ) → Limits h → IsIndex T h i → EndNumber 1 i
  index-fits i l (missing e) = (omega (arith, e), λ m. omega (arith, e))
  index-fits i l (given t) = (omega (arith, t.below, l.variables), λ m. omega (arith, t.below, l.variables))

  end-fits : (e : End) → Limits h → EndTyped T h e → (j : ℕ) → EndNumber j (end_number e j)
  unfolding end_number
  end-fits e l t zero = (omega (arith, t.pointer.below, l.variables), λ m. omega (arith, t.pointer.below, l.variables))
  end-fits e l t (suc zero) = index-fits e.integer l t.integer
  end-fits e l t (suc (suc n)) = (omega (arith, t.constant.high), λ m. absurd (omega (arith, m)))

  none-fits : (j : ℕ) → EndNumber j (end_number (end_of None) j)
  unfolding end_number
  none-fits zero = (omega arith, λ m. omega arith)
  none-fits (suc zero) = (omega arith, λ m. omega arith)
  none-fits (suc (suc n)) = (omega arith, λ m. omega arith)

  bounds-fits : (b : Bounds) → ((j : ℕ) → EndNumber j (end_number (end_of b.lower) j)) → ((j : ℕ) → EndNumber j (end_number (end_of b.upper) j)) → (j : ℕ)
      → BoundsNumber j (bounds_number b j)
  unfolding bounds_number
  bounds-fits b p q j = go (ltb j 3) refl
    where
      go : (c : Bool) → ltb j 3 ≡ c → BoundsNumber j (cond c (end_number (end_of b.lower) j) (end_number (end_of b.upper) (j - 3)))
      go true e = ((p j).0, λ k m. (p j).1 (omega (arith, m, ltb-true j 3 e)))
      go false e = ((q (j - 3)).0, λ k m. (q (j - 3)).1 (omega (arith, k, m, ltb-false j 3 e)))

  variable-fits : (v : ℕ) (r : Option Variable) → variable_at T h v ≡ r → (j : ℕ) → BoundsNumber j (bounds_number (bounds_of r) j)
  variable-fits v None e j = bounds-fits nothing_known none-fits none-fits j
  variable-fits v (Some Integer) e j = bounds-fits nothing_known none-fits none-fits j
  variable-fits v (Some (Pointer s low high)) e j =
      let t = variable-read-typed T h v (Pointer s low high) e in
      let l = (variable-read-limits T h v (Pointer s low high) e).0 in
      bounds-fits (bounds_of (Some (Pointer s low high))) (end-fits low l t.lower) (end-fits high l t.upper) j

  row_fits : (r : ℕ) (x : Option BoundsRow) → row_at T h r ≡ x → Limits h → (j : ℕ) → BoundsNumber j (bounds_number (row_bounds x) j)
  row_fits r None e l j = bounds-fits nothing_known none-fits none-fits j
  row_fits r (Some b) e l j =
      let t = row-read-typed T h r b.lower b.upper e in
      bounds-fits (row_bounds (Some b)) (end-fits b.lower l t.lower) (end-fits b.upper l t.upper) j

  -- The bounds of a list that is tabulated, or none.
  list-fits : (n : ℕ) (f : ℕ → Bounds) → ((i j : ℕ) → BoundsNumber j (bounds_number (f i) j)) → (i j : ℕ)
      → BoundsNumber j (bounds_number (get_or (tabulate n f) i nothing_known) j)
  list-fits n f g i j = go (ltb i n) refl
    where
      go : (b : Bool) → ltb i n ≡ b → BoundsNumber j (bounds_number (get_or (tabulate n f) i nothing_known) j)
      go true q = rw (get_d_tabulate n f i nothing_known (ltb-true i n q)) (g i j)
      go false q =
          let k : length (tabulate n f) ≤ i = omega (arith, length-tabulate n f, ltb-false i n q) in
          rw (get_or-eq_default (tabulate n f) nothing_known {n = i} k) (bounds-fits nothing_known none-fits none-fits j)

  rows-fits : Limits h → (r j : ℕ) → BoundsNumber j (bounds_number (get_or (environment_of T h).rows r nothing_known) j)
  unfolding environment_of
  rows-fits l r j = list-fits 64 (λ v. row_bounds (row_at T h v)) (λ v k. row_fits v (row_at T h v) refl l k) r j

  number_fits : Limits h → (n p j : ℕ) → BoundsNumber j (bounds_number (row_bound (environment_of T h) n p) j)
  unfolding row_bound environment_of
  number_fits l zero p j = list-fits 16 (λ v. bounds_of (variable_at T h v)) (λ v k. variable-fits v (variable_at T h v) refl k) p j
  number_fits l (suc r) p j = rw (sized-number (element_size (environment_of T h) p) (get_or (environment_of T h).rows r nothing_known) j) (rows-fits l r j)

  place-fits : Limits h → (R : List ℕ) (q j : ℕ) → BoundsNumber j (bounds_number (place_bounds (environment_of T h) R q) j)
  unfolding place_bounds row_bound
  place-fits l R q j = go (ltb q 16) refl
    where
      go : (b : Bool) → ltb q 16 ≡ b
          → BoundsNumber j (bounds_number (cond b (declared (in_force (environment_of T h) R) q) (get_or (environment_of T h).rows (q - 16) nothing_known)) j)
      go true e = rw (declared-in-force (environment_of T h) R q (ltb-true q 16 e)) (number_fits l (get_or R q 0) q j)
      go false e = rows-fits l (q - 16) j

  pick-fits : (P : ℕ → Type 0) (b : Bool) (x y : ℕ) → P x → P y → P (cond b x y)
  pick-fits P true x y p q = p
  pick-fits P false x y p q = q

  few : (b : Bool) (x y : ℕ) → x ≤ 8 → y ≤ 8 → cond b x y ≤ 8
  few true x y p q = p
  few false x y p q = q

  after-few : (i : ℕ) → after_bounds (environment_of T h) i ≤ 8
  after-few i =
      few (ltb i 496) (element_size (environment_of T h) (i - 480)) (mark_number (is_string (environment_of T h) (i - 496)))
      (sizes-small T h (i - 480)) (few (is_string (environment_of T h) (i - 496)) 1 0 (omega arith) (omega arith))

  ends-fit : Limits h → (R : List ℕ) (i : ℕ) → EndsNumber i (get_or (ends_of (environment_of T h) R) i 0)
  unfolding ends_of
  ends-fit l R i = go (ltb i 512) (ltb-true i 512) (ltb-false i 512)
    where
      go : (b : Bool) → (b ≡ true → i < 512) → (b ≡ false → 512 ≤ i) → EndsNumber i (get_or (ends_of (environment_of T h) R) i 0)
      go true p q =
          let b = place-fits l R (i / 6) (i % 6) in
          rw (get_d_tabulate 512 (place_number (environment_of T h) R) i 0 (p refl))
          (pick-fits (EndsNumber i) (ltb i 480) (bounds_number (place_bounds (environment_of T h) R (i / 6)) (i % 6)) (after_bounds (environment_of T h) i)
          (b.0, λ m. b.1 (omega arith) (omega (arith, m))) (omega (arith, after-few i), λ m. omega (arith, after-few i)))
      go false p q =
          let m = q refl in
          let g : length (ends_of (environment_of T h) R) ≤ i = omega (arith, ends-long (environment_of T h) R) in
          let z = get_or-eq_default (ends_of (environment_of T h) R) 0 g in
          (omega (arith, z), λ m. omega (arith, z))

  pub ends-small : Limits h → (R : List ℕ) (i : ℕ) → get_or (ends_of (environment_of T h) R) i 0 < 2 ^ 34
  ends-small l R i = (ends-fit l R i).0

  pub ends_named : Limits h → (R : List ℕ) → Named (ends_of (environment_of T h) R)
  ends_named l R i m = (ends-fit l R i).1 m

  -- Point 10: the element sizes are at most 8, as are the marks behind them.
  pub ends-sizes : (R : List ℕ) (p : ℕ) → size_in (ends_of (environment_of T h) R) p ≤ 8
  ends-sizes R p = go (ltb p 32) refl
    where
      go : (b : Bool) → ltb p 32 ≡ b → size_in (ends_of (environment_of T h) R) p ≤ 8
      go true q = rw (after-bounds (environment_of T h) R (480 + p) (omega arith) (omega (arith, ltb-true p 32 q))) (after-few (480 + p))
      go false q =
          let m : 32 ≤ p = ltb-false p 32 q in
          let g : length (ends_of (environment_of T h) R) ≤ 480 + p = omega (arith, ends-long (environment_of T h) R) in
          omega (arith, get_or-eq_default (ends_of (environment_of T h) R) 0 g)
