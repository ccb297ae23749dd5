-- An edited table passes causes 1 to 6 again, where the table passed them and the text does where it stands: so the form is not walked again.
use Rattle.std.specs.Prelude.{ℕ, zero, suc, ◌+◌, ◌-◌, ◌*◌, ◌/◌, ◌<◌, ◌≤◌, ◌≡◌, Bool, ◌&&◌, ◌||◌, cond, List, [], ℤ, pos, length, Err, Ok, Result, is_some}
use Rattle.std.proofs.Math.Path.{refl, ap}
use Rattle.std.proofs.Common.{sym, ◌∙◌, ap₂}
use Rattle.std.proofs.Math.Bool.{true, false}
use native.Mathlib.Omega.{arith}
use borrow.Author.Tests.{eqb-true, eqb-false, eq-eqb, ltb-true, ltb-false, lt-ltb, le-ltb, le-leb}
use Rattle.std.proofs.Math.Dec.{eqb, ltb, leb}
use Rattle.sums.specs.Numbers.{bias}
use Rattle.answers.specs.declared.refusals.Refusal.{Refusal}
use Rattle.answers.specs.declared.refusals.Refusal.TheVariants.{Length, Directory, ObjectLength, VariableRecord, StatementRecord}
use Rattle.words.specs.Words.{biased, word}
use Rattle.words.specs.Fields.{plain}
use Rattle.words.specs.Sections.{in_limits, Limits, variables_start, statements_start, statement_start, rows_start, table_end}
use Rattle.words.specs.SectionsLaws.{both, limits}
use Rattle.words.specs.declared.sections.Sections.{Sections}
use Rattle.statements.specs.Statements.{statement_at}
use Rattle.table.specs.Form.{is_number, four_pairs, length_right, sections_of, fourth_right, directory_right, object_right, variable_reads}
use Rattle.table.specs.Form.{row_reads, statement_reads, lowest_from, lowest_object, lowest_variable, lowest_row}
use Rattle.table.specs.Form.{lowest_statement}
use Rattle.table.specs.Form.{items_form, form_of}
use Rattle.table.specs.Searches.{holds-below}
use Rattle.edits.specs.Followed.{Agree}
use Rattle.edits.specs.Edited.{edited_sections, edited_word, edited}
use Rattle.edits.specs.EditedLaws.{Fits, start-cases, start-least, limits-stay, edited-long, word-at, word-stays, object-stays, variable-stays, row_stays}
use Rattle.edits.specs.EditedLaws.{statements-before, statements-behind}

-- ---- the tests of causes 1 to 5, one by one

pub record Tested (T : List ℤ) (h : Sections) : Type 0 where
  pub long : length_right T ≡ true
  pub sections : sections_of T ≡ h
  pub directory : directory_right T h ≡ true
  pub objects : ltb (lowest_object T h) h.objects ≡ false
  pub variables : ltb (lowest_variable T h) h.variables ≡ false
  pub rows : ltb (lowest_row T h) h.rows ≡ false
  pub statements : ltb (lowest_statement T h) h.statements ≡ false

passes : (b : Bool) (r : Refusal) (f : Result Sections Refusal) (h : Sections) → cond b (Err r) f ≡ Ok h → (b ≡ false) × (f ≡ Ok h)
passes true r f h e = let z : ◌≡◌ {A = ℕ} 0 1 = cc in absurd (omega arith)
passes false r f h e = (refl, e)

holds : (b : Bool) (r : Refusal) (f : Result Sections Refusal) (h : Sections) → cond b f (Err r) ≡ Ok h → (b ≡ true) × (f ≡ Ok h)
holds true r f h e = (refl, e)
holds false r f h e = let z : ◌≡◌ {A = ℕ} 0 1 = cc in absurd (omega arith)

items-tested : (T : List ℤ) (g h : Sections) → length_right T ≡ true → sections_of T ≡ g → directory_right T g ≡ true → items_form T g ≡ Ok h
    → Tested T h
unfolding items_form
items-tested T g h l c d e =
    let o = passes (ltb (lowest_object T g) g.objects) (ObjectLength (lowest_object T g)) _ h e in
    let v = passes (ltb (lowest_variable T g) g.variables) (VariableRecord (lowest_variable T g)) _ h o.1 in
    let w = passes (ltb (lowest_row T g) g.rows) (VariableRecord (g.variables + lowest_row T g)) _ h v.1 in
    let s = passes (ltb (lowest_statement T g) g.statements) (StatementRecord (lowest_statement T g)) (Ok g) h w.1 in
    let same : Ok g ≡ Ok h = s.1 in
    let z : g ≡ h = cc in
    let r : Tested T g = record { long = l; sections = c; directory = d; objects = o.0; variables = v.0; rows = w.0; statements = s.0 } in
    rw z at r

pub tested : (T : List ℤ) (h : Sections) → form_of T ≡ Ok h → Tested T h
unfolding form_of
tested T h e =
    let a = holds (length_right T) Length _ h e in
    let b = holds (directory_right T (sections_of T)) Directory (items_form T (sections_of T)) h a.1 in
    items-tested T (sections_of T) h a.0 refl b.0 b.1

pub well-tested : {T : List ℤ} {h : Sections} → Tested T h → form_of T ≡ Ok h
unfolding form_of items_form
well-tested t = rw (t.long, t.sections, t.directory, t.objects, t.variables, t.rows, t.statements)

-- "the last section ends the table"
pub directory-end : (T : List ℤ) (h : Sections) → directory_right T h ≡ true → length T ≡ table_end h
unfolding directory_right
directory-end T h e =
    let words = is_number h.start (word T 0) && is_number h.objects (word T 1) && is_number (variables_start h) (word T 2)
    && is_number (8 * h.variables) (word T 3) && is_number (statements_start h) (word T 4) && is_number (7 * h.statements) (word T 5)
    && fourth_right T h in
    let ends = eqb (length T) (table_end h) in
    let p = both (in_limits h) (words && ends) e in
    eqb-true (length T) (table_end h) (both words ends p.1).1

-- ---- searches

pub lowest-same : (f g : ℕ → Bool) → ((i : ℕ) → f i ≡ g i) → (n i : ℕ) → lowest_from f i n ≡ lowest_from g i n
unfolding lowest_from
lowest-same f g e zero i = refl
lowest-same f g e (suc n) i = rw (e i, lowest-same f g e n (i + 1))

pub lowest-all : (f : ℕ → Bool) (n i : ℕ) → ((k : ℕ) → i ≤ k → k < i + n → f k ≡ true) → lowest_from f i n ≡ i + n
unfolding lowest_from
lowest-all f zero i e = omega arith
lowest-all f (suc n) i e = rw (e i (omega arith) (omega arith)) (lowest-all f n (i + 1) (λ k p q. e k (omega arith) (omega arith)) ∙ omega arith)

-- ---- numbers in words

is-number : (n : ℕ) → is_number n (n + bias) ≡ true
unfolding is_number
is-number n = let z : n + bias - bias ≡ n = omega arith in rw (z, le-leb bias (n + bias) (omega arith), eq-eqb n n refl)

module _ (T : List ℤ) (h : Sections) (p m k : ℕ) (X : List ℤ) (fits : Fits h p m k) (t : Tested T h) where
  abbrev U : List ℤ
  U = edited T h p m k X

  abbrev g : Sections
  g = edited_sections h m k

  some : 1 ≤ h.variables
  some = (limits h fits.limits).some

  head-word : (i : ℕ) → i < 8 → (i ≡ 5 → ⊥) → (i ≡ 6 → ⊥) → word U i ≡ word T i
  head-word i q r s =
      let b = start-least h fits.limits in
      let v = some in
      word-stays T h p m k X fits i (omega arith) r (λ e f. s e)

  length-word : word U 5 ≡ 7 * (h.statements - m + k) + bias
  unfolding edited_word biased
  length-word =
      let b = start-least h fits.limits in
      let v = some in
      word-at T h p m k X fits 5 (omega arith)

  offset-word : h.start ≡ 8 → word U 6 ≡ rows_start g + bias
  unfolding edited_word biased
  offset-word e =
      let v = some in
      word-at T h p m k X fits 6 (omega arith) ∙ rw (eq-eqb h.start 8 e)

  eight : eqb h.start 6 ≡ false → h.start ≡ 8
  eight q = go (eqb h.start 8) refl
    where
      go : (b : Bool) → eqb h.start 8 ≡ b → h.start ≡ 8
      go true e = eqb-true h.start 8 e
      go false e = absurd (eqb-false h.start 6 q (start-cases h fits.limits (eqb-false h.start 8 e)))

  pairs-stay : four_pairs U ≡ four_pairs T
  unfolding four_pairs
  pairs-stay = rw (head-word 0 (omega arith) (λ e. omega arith) (λ e. omega arith))

  sections-after : sections_of U ≡ g
  unfolding sections_of
  sections-after =
      let z : (7 * (h.statements - m + k) + bias - bias) / 7 ≡ h.statements - m + k = omega arith in
      rw (
        pairs-stay,
        length-word,
        head-word 1 (omega arith) (λ e. omega arith) (λ e. omega arith),
        head-word 3 (omega arith) (λ e. omega arith) (λ e. omega arith),
        head-word 7 (omega arith) (λ e. omega arith) (λ e. omega arith),
        z,
      )
      (ap (λ (x : Sections). record { start = x.start; objects = x.objects; variables = x.variables; statements = h.statements - m + k; rows = x.rows })
      t.sections)

  -- ---- cause 1

  long_after : length_right U ≡ true
  unfolding length_right sections_of
  long_after = rw (pairs-stay, edited-long T h p m k X fits) (go (four_pairs T) refl)
    where
      go : (b : Bool) → four_pairs T ≡ b → (leb 6 (table_end g) && leb (table_end g) (cond b 7704 7318)) ≡ true
      go true e =
          let b = start-least h fits.limits in
          let v = limits h fits.limits in
          let f = fits.few in
          rw (le-leb 6 (table_end g) (omega arith)) (le-leb (table_end g) 7704 (omega arith))
      go false e =
          let b = start-least h fits.limits in
          let v = limits h fits.limits in
          let f = fits.few in
          let s : 6 ≡ h.start = rw e at (ap (λ (x : Sections). x.start) t.sections) in
          let r : 0 ≡ h.rows = rw e at (ap (λ (x : Sections). x.rows) t.sections) in
          rw (le-leb 6 (table_end g) (omega arith)) (le-leb (table_end g) 7318 (omega arith))

  -- ---- cause 2

  fourth-after : fourth_right T h ≡ true → fourth_right U g ≡ true
  unfolding fourth_right
  fourth-after e = go (eqb h.start 6) refl e
    where
      go : (b : Bool) → eqb h.start 6 ≡ b → (b || is_number (rows_start h) (word T 6) && is_number (6 * h.rows) (word T 7)) ≡ true
          → (b || is_number (rows_start g) (word U 6) && is_number (6 * h.rows) (word U 7)) ≡ true
      go true q r = refl
      go false q r =
          let s : h.start ≡ 8 = eight q in
          rw (offset-word s, is-number (rows_start g), head-word 7 (omega arith) (λ i. omega arith) (λ i. omega arith))
          (both (is_number (rows_start h) (word T 6)) (is_number (6 * h.rows) (word T 7)) r).1

  directory-after : directory_right U g ≡ true
  unfolding directory_right
  directory-after =
      let d = t.directory in
      let n₀ = is_number h.start (word T 0) in
      let n₁ = is_number h.objects (word T 1) in
      let n₂ = is_number (variables_start h) (word T 2) in
      let n₃ = is_number (8 * h.variables) (word T 3) in
      let n₄ = is_number (statements_start h) (word T 4) in
      let n₅ = is_number (7 * h.statements) (word T 5) in
      let f = fourth_right T h in
      let ends = eqb (length T) (table_end h) in
      let c = both (in_limits h) (n₀ && n₁ && n₂ && n₃ && n₄ && n₅ && f && ends) d in
      let c₇ = both (n₀ && n₁ && n₂ && n₃ && n₄ && n₅ && f) ends c.1 in
      let c₆ = both (n₀ && n₁ && n₂ && n₃ && n₄ && n₅) f c₇.0 in
      let c₅ = both (n₀ && n₁ && n₂ && n₃ && n₄) n₅ c₆.0 in
      rw (
        limits-stay h m k fits.limits fits.few,
        head-word 0 (omega arith) (λ e. omega arith) (λ e. omega arith),
        head-word 1 (omega arith) (λ e. omega arith) (λ e. omega arith),
        head-word 2 (omega arith) (λ e. omega arith) (λ e. omega arith),
        head-word 3 (omega arith) (λ e. omega arith) (λ e. omega arith),
        head-word 4 (omega arith) (λ e. omega arith) (λ e. omega arith),
        length-word,
        edited-long T h p m k X fits,
        c₅.0,
        is-number (7 * (h.statements - m + k)),
        fourth-after c₆.1,
        eq-eqb (table_end g) (table_end g) refl,
      )

  -- ---- causes 3 to 5

  objects-after : ltb (lowest_object U g) g.objects ≡ false
  unfolding lowest_object object_right
  objects-after =
      rw (lowest-same (object_right U g) (object_right T h) (λ o. let e = object-stays T h p m k X fits o in rw e) h.objects 0) t.objects

  variables-after : ltb (lowest_variable U g) g.variables ≡ false
  unfolding lowest_variable variable_reads
  variables-after =
      rw (lowest-same (variable_reads U g) (variable_reads T h) (λ v. ap is_some (variable-stays T h p m k X fits v)) h.variables 0) t.variables

  rows-after : ltb (lowest_row U g) g.rows ≡ false
  unfolding lowest_row row_reads
  rows-after = rw (lowest-same (row_reads U g) (row_reads T h) (λ r. ap is_some (row_stays T h p m k X fits r)) h.rows 0) t.rows

  -- Every statement of the table reads.
  each-reads : (a : ℕ) → a < h.statements → statement_reads T h a ≡ true
  unfolding lowest_statement
  each-reads a q = holds-below (statement_reads T h) h.statements (ltb-false (lowest_statement T h) h.statements t.statements) a q

  module _ (text : (a : ℕ) → p ≤ a → a < p + k → statement_reads U g a ≡ true) where
    reads-after : (a : ℕ) → a < g.statements → statement_reads U g a ≡ true
    unfolding statement_reads
    reads-after a q = go (ltb a p) refl (ltb a (p + k)) refl
      where
        go : (x : Bool) → ltb a p ≡ x → (y : Bool) → ltb a (p + k) ≡ y → is_some (statement_at U g a) ≡ true
        go true e y f =
            let i = ltb-true a p e in
            let z : 0 + a ≡ a = omega arith in
            ap is_some (rw z at ((statements-before T h p m k X fits).each a i)) ∙ each-reads a (omega (arith, fits.within))
        go false e true f = text a (ltb-false a p e) (ltb-true a (p + k) f)
        go false e false f =
            let i = ltb-false a (p + k) f in
            let w = fits.within in
            let z : p + k + (a - (p + k)) ≡ a = omega arith in
            ap is_some (rw z at ((statements-behind T h p m k X fits).each (a - (p + k)) (omega arith)))
            ∙ each-reads (p + m + (a - (p + k))) (omega arith)

    pub tested-after : Tested U g
    unfolding lowest_statement
    tested-after = record {
      long = long_after;
      sections = sections-after;
      directory = directory-after;
      objects = objects-after;
      variables = variables-after;
      rows = rows-after;
      statements = rw (lowest-all (statement_reads U g) g.statements 0 (λ a l u. reads-after a (omega arith)))
          (le-ltb (0 + g.statements) g.statements (omega arith));
    }
