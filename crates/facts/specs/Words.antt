-- A fact set as 290 words: 17 rows of 17 sums, then 1 where the facts contradict, else 0.
use Rattle.std.specs.Prelude.{ℕ, ◌+◌, ◌*◌, ◌/◌, ◌%◌, ◌<◌, ◌≤◌, ◌≡◌, refl, Bool, true, false, cond, List, length, get_or, set, ltb, eqb}
use Rattle.std.specs.Int.{from_bool}
use Rattle.std.proofs.Common.{sym, ◌∙◌, ap, ap₂, ⊎_elim, eq-or-lt_of_le, arith, lt-ltb, le-ltb, ext_get_or}
use Rattle.arrays.specs.Tabulate.{tabulate}
use Rattle.arrays.specs.TabulateLaws.{length-tabulate, get_d_tabulate, tabulate-alike}
use Rattle.arrays.specs.Overwritten.{Overwritten, over_none, over-more, over-then}
use Rattle.facts.specs.Store.{no_row, row_at, in_row, sum_at, row_of, set_of}
use Rattle.facts.specs.declared.rows.Row.{Row}
use Rattle.facts.specs.declared.FactSet.{FactSet}

abbrev pub mark_word : Bool → ℕ
mark_word true = 1
mark_word false = 0

-- The word i of a set.
unfoldable pub set_word : FactSet → ℕ → ℕ
set_word f i = cond (ltb i 289) (sum_at f (i / 17) (i % 17)) (mark_word f.contradiction)

-- The row and the set that the words from `at` on are.
unfoldable pub loaded_row : List ℕ → ℕ → Row
loaded_row W at = row_of (λ j. get_or W (at + j) 0)

unfoldable pub loaded : List ℕ → ℕ → FactSet
loaded W at = set_of (tabulate 17 (λ i. loaded_row W (at + 17 * i))) (eqb (get_or W (at + 289) 0) 1)

-- The set stands in the 290 words from `at` on, every other word is what it was, and read back the set is the same.
pub record Saved (old : List ℕ) (at : ℕ) (f : FactSet) (new : List ℕ) : Type 0 where
  pub words : Overwritten 0 old at 290 (set_word f) new
  pub back : loaded new at ≡ f

-- What is read depends on the 290 words alone.
pub loaded-same : (W Q : List ℕ) (a b : ℕ) → ((i : ℕ) → i < 290 → get_or Q (b + i) 0 ≡ get_or W (a + i) 0) → loaded Q b ≡ loaded W a
unfolding loaded loaded_row
loaded-same W Q a b e =
    let m : get_or Q (b + 289) 0 ≡ get_or W (a + 289) 0 = e 289 (omega arith) in
    ap₂ set_of (tabulate-alike 17 (λ i p. ap (λ (l : List ℕ). record { sums = l }) (tabulate-alike 17 (λ j q. each i j p q)))) (rw m)
  where
    each : (i j : ℕ) → i < 17 → j < 17 → get_or Q (b + 17 * i + j) 0 ≡ get_or W (a + 17 * i + j) 0
    each i j p q =
        let x : b + 17 * i + j ≡ b + (17 * i + j) = omega arith in
        let y : a + 17 * i + j ≡ a + (17 * i + j) = omega arith in
        rw (x, y) (e (17 * i + j) (omega arith))

-- A list of n elements is the one that its elements give.
pub whole : {A : Type 0} (l : List A) (n : ℕ) (d : A) → length l ≡ n → tabulate n (λ i. get_or l i d) ≡ l
whole l n d e = ext_get_or d _ l (length-tabulate n (λ i. get_or l i d) ∙ sym e)
    (λ i p. get_d_tabulate n (λ i. get_or l i d) i d (omega (arith, length-tabulate n (λ i. get_or l i d))))

pub row-whole : (r : Row) → length r.sums ≡ 17 → row_of (in_row r) ≡ r
row-whole r e = ap (λ (l : List ℕ). record { sums = l }) (whole r.sums 17 0 e)

-- The first n rows of the set stand in the words, and are whole.
pub record RowsSaved (old : List ℕ) (at : ℕ) (f : FactSet) (n : ℕ) (new : List ℕ) : Type 0 where
  pub words : Overwritten 0 old at (17 * n) (set_word f) new
  pub rows : (i : ℕ) → i < n → row_of (in_row (row_at f i)) ≡ row_at f i

pub record RowSaved (old : List ℕ) (at : ℕ) (r : Row) (new : List ℕ) : Type 0 where
  pub words : Overwritten 0 old at 17 (in_row r) new
  pub row : row_of (in_row r) ≡ r

word-in-row : (f : FactSet) (n j : ℕ) → n < 17 → j < 17 → set_word f (17 * n + j) ≡ in_row (row_at f n) j
unfolding set_word
word-in-row f n j p q =
    let x : (17 * n + j) / 17 ≡ n = omega arith in
    let y : (17 * n + j) % 17 ≡ j = omega arith in
    rw (lt-ltb (17 * n + j) 289 (omega arith), x, y)

pub rows_none : (W : List ℕ) (at : ℕ) (f : FactSet) → RowsSaved W at f 0 W
rows_none W at f = record { words = over_none W at (set_word f); rows = λ i p. absurd (omega arith) }

pub rows_more : {old mid new : List ℕ} {at n : ℕ} {f : FactSet} → RowsSaved old at f n mid → n < 17 → RowSaved mid (at + 17 * n) (row_at f n) new
    → RowsSaved old at f (n + 1) new
rows_more {old} {mid} {new} {at} {n} {f} p q r =
    let z : 17 * (n + 1) ≡ 17 * n + 17 = omega arith in record {
      words = rw z (over-then p.words r.words refl (λ i l. refl) (λ i l. sym (word-in-row f n i q l)));
      rows = λ i l. ⊎_elim (λ (e : i ≡ n). rw e r.row) (λ (k : i < n). p.rows i k) (eq-or-lt_of_le (omega arith));
    }

-- The word of a mark is the mark as a number.
pub mark_from : (b : Bool) → from_bool b ≡ mark_word b
mark_from true = refl
mark_from false = refl

mark-back : (b : Bool) → eqb (mark_word b) 1 ≡ b
mark-back true = refl
mark-back false = refl

pub saved : {old mid : List ℕ} {at : ℕ} {f : FactSet} → RowsSaved old at f 17 mid → at + 290 ≤ length old → length f.rows ≡ 17 → {m : ℕ}
    → m ≡ mark_word f.contradiction
    → Saved old at f (set mid (at + 289) m)
unfolding set_word loaded loaded_row
saved {old} {mid} {at} {f} p q e {m} o =
    let w : Overwritten 0 old at 290 (set_word f) (set mid (at + 289) m) = over-more p.words (omega arith) o in record {
      words = w;
      back = ap₂ set_of
          (tabulate-alike 17 (λ i l. row i l w) ∙ whole f.rows 17 no_row e)
          (ap (λ (x : ℕ). eqb x 1) (w.inside 289 (omega arith)) ∙ mark-back f.contradiction);
    }
  where
    row : (i : ℕ) → i < 17 → Overwritten 0 old at 290 (set_word f) (set mid (at + 289) m)
        → row_of (λ j. get_or (set mid (at + 289) m) (at + 17 * i + j) 0) ≡ row_at f i
    row i l w = ap (λ (s : List ℕ). record { sums = s }) (tabulate-alike 17 (λ j k. cell j k)) ∙ p.rows i l
      where
        cell : (j : ℕ) → j < 17 → get_or (set mid (at + 289) m) (at + 17 * i + j) 0 ≡ in_row (row_at f i) j
        cell j k =
            let x : at + 17 * i + j ≡ at + (17 * i + j) = omega arith in
            rw x (w.inside (17 * i + j) (omega arith) ∙ word-in-row f i j l k)
