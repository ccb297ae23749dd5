-- The sums of a fact set in an array of arrays, as the code changes them, and the rows that they are.
use Rattle.std.specs.Prelude.{ℕ, zero, suc, ◌+◌, ◌≤◌, ◌<◌, ◌≡◌, refl, List, [], ◌∷◌, map, Bool, true, false, not, cond, length, get_or, set, eqb}
use Rattle.std.proofs.Common.{sym, ap, ap₂, ◌∙◌, ⊎_elim, eqb-true, length-set, get_or-set_same, get_or-set_other, add-one, eq-or-lt_of_le, arith}
use Rattle.std.proofs.lemmas.Bool.{eqb-false}
use Rattle.std.proofs.lemmas.List.{length-map}
use Rattle.std.proofs.Math.ListN.{get_or-map}
use Rattle.sums.specs.Numbers.{bias}
use Rattle.sums.specs.Sums.{concatenated}
use Rattle.arrays.specs.Tabulate.{tabulate}
use Rattle.arrays.specs.TabulateLaws.{get_d_tabulate, tabulate-alike, Filled, filled_none, filled_more, filled_next, filled-kept, filled-last, filled-whole}
use Rattle.facts.specs.Store.{no_row, row_at, row_with, in_row, sum_at, set_of, rerouted_row, rerouted, own_row, anew, added}
use Rattle.facts.specs.Rows.{shortened_row}
use Rattle.facts.specs.StoreLoops.{anew-filled, Lowering, lowering-falls, lowering-stays, lowering-done, way-known, way-closed, way-lowered}
use Rattle.facts.specs.declared.rows.Row.{Row}
use Rattle.facts.specs.declared.FactSet.{FactSet}

abbrev pub rows_with : List (List ℕ) → List Row
rows_with g = map row_with g

-- The fact set whose sums they are.
abbrev pub set_with : List (List ℕ) → Bool → FactSet
set_with g mark = set_of (rows_with g) mark

-- ---- lists

module _ {A : Type 0} where
  -- A list is what its elements make.
  pub tabulate-same : (l : List A) (n : ℕ) (d : A) → length l ≡ n → tabulate n (λ j. get_or l j d) ≡ l
  tabulate-same l n d e = sym (filled-whole (kept n (omega arith)) (omega arith))
    where
      kept : (i : ℕ) → i ≤ n → Filled l l n (λ j. get_or l j d) i
      kept zero h = filled_none l n _ e
      kept (suc i) h = rw add-one at (filled-kept d (kept i (omega arith)) (omega arith) refl)

  -- All but the last by a loop, then the last.
  pub filled_copy : {l old old₀ : List A} {n i : ℕ} (d : A) (m : ℕ) → Filled l old₀ n (λ j. get_or old j d) i → i ≡ m → m + 1 ≡ n → length old ≡ n
      → set l m (get_or old m d) ≡ old
  filled_copy {l} {old} {old₀} {n} {i} d m p e q h = filled-last m p e q refl ∙ tabulate-same old n d h

-- ---- rows

pub rows-set : (g : List (List ℕ)) (i : ℕ) (l : List ℕ) → rows_with (set g i l) ≡ set (rows_with g) i (row_with l)
rows-set [] i l = refl
rows-set (x ∷ g) zero l = refl
rows-set (x ∷ g) (suc i) l = ap (λ (t : List Row). row_with x ∷ t) (rows-set g i l)

pub row_in : (g : List (List ℕ)) (i : ℕ) → get_or (rows_with g) i no_row ≡ row_with (get_or g i [])
row_in g i = get_or-map row_with g i []

pub sum-in : (g : List (List ℕ)) (mark : Bool) (x y : ℕ) → sum_at (set_with g mark) x y ≡ get_or (get_or g x []) y 0
sum-in g mark x y = ap (λ (r : Row). in_row r y) (row_in g x)

pub long-rows : (g : List (List ℕ)) → length g ≡ 17 → length (rows_with g) ≡ 17
long-rows g e = length-map g row_with ∙ e

pub set-rerouted : (l : List ℕ) (x to : ℕ) → x < 17 → length l ≡ 17 → row_with (set l x to) ≡ rerouted_row (row_with l) x to
unfolding rerouted_row
set-rerouted l x to hx e =
    ap row_with (sym (tabulate-same (set l x to) 17 0 (length-set l x to ∙ e)) ∙ tabulate-alike 17 (λ j hj. go j (eqb j x) refl))
  where
    go : (j : ℕ) (b : Bool) → eqb j x ≡ b → get_or (set l x to) j 0 ≡ cond (eqb j x) to (get_or l j 0)
    go j true q = rw q (ap (λ (n : ℕ). get_or (set l x to) n 0) (eqb-true j x q) ∙ get_or-set_same l x to 0 (omega (arith, e)))
    go j false q = rw q (get_or-set_other l x j to 0 (eqb-false j x q))

-- One more row in the array of arrays.
grid-more : (g : List (List ℕ)) {old : List Row} {n i : ℕ} {f : ℕ → Row} {l : List ℕ} → Filled (rows_with g) old n f i → i < n → row_with l ≡ f i
    → Filled (rows_with (set g i l)) old n f (i + 1)
grid-more g {i = i} {l = l} p h e = rw (rows-set g i l) (filled_more p h e)

abbrev pub Long : List (List ℕ) → Type 0
Long g = (n : ℕ) → n < 17 → length (get_or g n []) ≡ 17

-- ---- the rows are taken apart

pub record Loading (f : FactSet) (g₀ g : List (List ℕ)) (i : ℕ) : Type 0 where
  pub filled : Filled (rows_with g) (rows_with g₀) 17 (row_at f) i
  pub long : (n : ℕ) → n < i → length (row_at f n).sums ≡ 17

module _ (f : FactSet) (g₀ : List (List ℕ)) where
  pub loading-none : length g₀ ≡ 17 → Loading f g₀ g₀ 0
  loading-none e = record { filled = filled_none _ _ _ (long-rows g₀ e); long = λ n h. absurd (omega arith) }

  module _ (g : List (List ℕ)) {i : ℕ} (p : Loading f g₀ g i) where
    pub loading-more : {l : List ℕ} → i < 17 → row_with l ≡ row_at f i → length l ≡ 17 → Loading f g₀ (set g i l) (i + 1)
    loading-more {l} h e d =
        record {
          filled = grid-more g p.filled h e;
          long = λ n hn.
              ⊎_elim (λ (q : n ≡ i). rw q (ap (λ (r : Row). length r.sums) (sym e) ∙ d)) (λ (q : n < i). p.long n q) (eq-or-lt_of_le (omega arith));
        }

    pub loading-set : 17 ≤ i → length f.rows ≡ 17 → set_with g f.contradiction ≡ f
    loading-set h e = ap (λ (l : List Row). set_of l f.contradiction) (filled-whole p.filled h ∙ tabulate-same f.rows 17 no_row e)

    pub loading-long : 17 ≤ i → Long g
    loading-long h n hn =
        ap (λ (r : Row). length r.sums)
        (sym (row_in g n) ∙ ap (λ (l : List Row). get_or l n no_row) (filled-whole p.filled h) ∙ get_d_tabulate 17 (row_at f) n no_row hn)
        ∙ p.long n (omega arith)

-- ---- a variable anew

pub record Rerouting (g₀ : List (List ℕ)) (mark : Bool) (x y down : ℕ) (g : List (List ℕ)) (i : ℕ) : Type 0 where
  pub filled : Filled (rows_with g) (rows_with g₀) 17 (rerouted (set_with g₀ mark) x y down) i
  pub long : Long g₀

module _ (g₀ : List (List ℕ)) (mark : Bool) (x y down : ℕ) where
  pub rerouting-none : length g₀ ≡ 17 → Long g₀ → Rerouting g₀ mark x y down g₀ 0
  rerouting-none e l = record { filled = filled_none _ _ _ (long-rows g₀ e); long = l }

  module _ (g : List (List ℕ)) {i : ℕ} (p : Rerouting g₀ mark x y down g i) where
    pub rerouting-more : {to : ℕ} → i < 17 → x < 17 → to ≡ concatenated (get_or (get_or g i []) y 0) down
        → Rerouting g₀ mark x y down (set g i (set (get_or g i []) x to)) (i + 1)
    rerouting-more {to} h hx e =
        let kept : row_with (get_or g i []) ≡ row_at (set_with g₀ mark) i = sym (row_in g i) ∙ filled_next no_row p.filled in
        let long : length (get_or g i []) ≡ 17 = ap (λ (r : Row). length r.sums) (kept ∙ row_in g₀ i) ∙ p.long i h in
        record {
          filled = grid-more g p.filled h
              (set-rerouted (get_or g i []) x to hx long
              ∙ ap₂ (λ (r : Row) (s : ℕ). rerouted_row r x s) kept (e ∙ ap (λ (r : Row). concatenated (in_row r y) down) kept));
          long = p.long;
        }

    pub rerouting-done : {h : List (List ℕ)} {own : List ℕ} (up : ℕ) → 17 ≤ i → x < 16 → y < 17 → row_with own ≡ own_row (row_with (get_or g₀ y [])) x up
        → h ≡ set g x own
        → set_with h mark ≡ anew (set_with g₀ mark) x y up down
    rerouting-done {h} {own} up l hx hy o e =
        anew-filled (set_with g₀ mark) x y up down hx hy (o ∙ ap (λ (r : Row). own_row r x up) (sym (row_in g₀ y))) (filled-whole p.filled l) refl
        (ap (λ (t : List (List ℕ)). set_with t mark) e ∙ ap (λ (t : List Row). set_of t mark) (rows-set g x own))

-- ---- facts

module _ (x y k : ℕ) (through : Row) (f₀ : FactSet) (g : List (List ℕ)) (mark : Bool) {i start : ℕ}
    (p : Lowering x y k through f₀ (set_with g mark) i) (h : i < 17) (s : start ≡ concatenated (get_or (get_or g i []) x 0) k) where
  start-in : start ≡ concatenated (sum_at (set_with g mark) i x) k
  start-in = s ∙ ap (λ (a : ℕ). concatenated a k) (sym (sum-in g mark i x))

  pub grid-falls : {g' : List (List ℕ)} {l : List ℕ} → start < get_or (get_or g i []) y 0 → row_with l ≡ shortened_row (row_with (get_or g i [])) start through
      → g' ≡ set g i l → Lowering x y k through f₀ (set_with g' mark) (i + 1)
  grid-falls {g'} {l} q e d =
      lowering-falls p h start-in (rw (sum-in g mark i y) q) (e ∙ ap (λ (r : Row). shortened_row r start through) (sym (row_in g i)))
      (ap (λ (t : List (List ℕ)). set_with t mark) d ∙ ap (λ (t : List Row). set_of t mark) (rows-set g i l))

  pub grid-stays : {g' : List (List ℕ)} → get_or (get_or g i []) y 0 ≤ start → g' ≡ g → Lowering x y k through f₀ (set_with g' mark) (i + 1)
  grid-stays q d = lowering-stays p h start-in (rw (sum-in g mark i y) q) (ap (λ (t : List (List ℕ)). set_with t mark) d)

closing : (g : List (List ℕ)) (mark : Bool) (x y k : ℕ) {s : ℕ} → s ≡ concatenated (get_or (get_or g y []) x 0) k
    → s ≡ concatenated (sum_at (set_with g mark) y x) k
closing g mark x y k d = d ∙ ap (λ (a : ℕ). concatenated a k) (sym (sum-in g mark y x))

module _ (g : List (List ℕ)) (mark : Bool) (x y k : ℕ) {f : FactSet} (hx : x < 17) (hy : y < 17) where
  pub grid-known : get_or (get_or g x []) y 0 ≤ k → f ≡ set_with g mark → f ≡ added (set_with g mark) x y k
  grid-known h e = way-known (set_with g mark) x y k hx hy (rw (sum-in g mark x y) h) e

  module _ {s : ℕ} (c : not mark ≡ true) (h : k < get_or (get_or g x []) y 0) (d : s ≡ concatenated (get_or (get_or g y []) x 0) k) where
    pub grid-closed : s < bias → f ≡ set_with g true → f ≡ added (set_with g mark) x y k
    grid-closed l e = way-closed (set_with g mark) x y k hx hy c (rw (sum-in g mark x y) h) (closing g mark x y k d) l e

    pub grid-lowered : {b : FactSet} {i : ℕ} → bias ≤ s → Lowering x y k (row_with (get_or g y [])) (set_with g mark) b i → 17 ≤ i → f ≡ b
        → f ≡ added (set_with g mark) x y k
    grid-lowered {b} {i} l p q e =
        let p' : Lowering x y k (row_at (set_with g mark) y) (set_with g mark) b i = rw (row_in g y) p in
        way-lowered (set_with g mark) x y k hx hy c (rw (sum-in g mark x y) h) (closing g mark x y k d) l (e ∙ lowering-done p' q)

-- ---- the rows again

pub stored : (g : List (List ℕ)) {next : FactSet} {old : List Row} {mark : Bool} {i : ℕ} → Filled next.rows old 17 (λ n. row_with (get_or g n [])) i
    → 17 ≤ i → next.contradiction ≡ mark → length (rows_with g) ≡ 17 → next ≡ set_with g mark
stored g p h m e = ap₂ set_of (filled-whole p h ∙ tabulate-alike 17 (λ n hn. sym (row_in g n)) ∙ tabulate-same (rows_with g) 17 no_row e) m
