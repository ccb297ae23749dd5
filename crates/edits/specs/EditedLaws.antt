-- The words of an edited table, and what its records read as.
use Rattle.std.specs.Prelude.{ℕ, zero, suc, ◌+◌, ◌-◌, ◌*◌, ◌<◌, ◌≤◌, ◌≡◌, Bool, ◌&&◌, ◌||◌, List, ℤ, pos, get_or, length, eqb, leb, None}
use Rattle.std.proofs.Math.Path.{refl, ap}
use Rattle.std.proofs.Common.{sym, ◌∙◌}
use Rattle.std.proofs.Math.Bool.{true, false, cond}
use native.Mathlib.Omega.{arith}
use borrow.Author.Tests.{eqb-true, eq-eqb, ne_eqb, ltb-true, lt-ltb, le-ltb, le-leb}
use Rattle.std.proofs.Math.Dec.{ltb}
use Rattle.sums.specs.Numbers.{bias}
use Rattle.arrays.specs.Tabulate.{tabulate}
use Rattle.arrays.specs.TabulateLaws.{length-tabulate, get_d_tabulate}
use Rattle.words.specs.Words.{biased, word, fields_at}
use Rattle.words.specs.Sections.{start_right, in_limits, Limits, object_start, variable_start, statement_start, row_start, rows_start, table_end, is_variable}
use Rattle.words.specs.Sections.{kind_of, kind_at, object_terminated}
use Rattle.words.specs.SectionsLaws.{both, limits}
use Rattle.words.specs.declared.sections.Sections.{Sections}
use Rattle.statements.specs.Statements.{kind_read, statement_at}
use Rattle.table.specs.Variables.{end_words_at, variable_words_at, row_words_at, variable_of, variable_at, row_of, row_at, object_cells, object_at}
use Rattle.edits.specs.Followed.{Agree}
use Rattle.edits.specs.SameDeclared.{SameDeclared, kind-read, variable-of, row-of}
use Rattle.edits.specs.Edited.{edited_sections, edited_word, edited}

-- The statements p to p + m - 1 are in the table, and k others have room in their place.
pub record Fits (h : Sections) (p m k : ℕ) : Type 0 where
  pub limits : in_limits h ≡ true
  pub sizes : Limits h
  pub within : p + m ≤ h.statements
  pub few : h.statements - m + k ≤ 1024

-- "The first offset is 6", or 8.
pub start-cases : (h : Sections) → in_limits h ≡ true → (h.start ≡ 8 → ⊥) → h.start ≡ 6
unfolding in_limits start_right
start-cases h e q = go (eqb h.start 6 && eqb h.rows 0) refl
    (both (leb h.objects 16 && leb 1 h.variables && leb h.variables 16 && leb h.statements 1024) (start_right h) e).1
  where
    go : (b : Bool) → (eqb h.start 6 && eqb h.rows 0) ≡ b → (b || eqb h.start 8 && leb h.rows 64) ≡ true → h.start ≡ 6
    go true p r = eqb-true h.start 6 (both (eqb h.start 6) (eqb h.rows 0) p).0
    go false p r = absurd (q (eqb-true h.start 8 (both (eqb h.start 8) (leb h.rows 64) r).0))

pub start-least : (h : Sections) → in_limits h ≡ true → 6 ≤ h.start
start-least h e = go (eqb h.start 8) refl
  where
    go : (b : Bool) → eqb h.start 8 ≡ b → 6 ≤ h.start
    go true p = omega (arith, eqb-true h.start 8 p)
    go false p = omega (arith, start-cases h e (λ i. let o : true ≡ false = sym (eq-eqb h.start 8 i) ∙ p in let z : ◌≡◌ {A = ℕ} 0 1 = cc in omega arith))

start-stays : (h : Sections) (m k : ℕ) → start_right h ≡ true → start_right (edited_sections h m k) ≡ true
unfolding start_right
start-stays h m k e = e

-- The limits stay.
pub limits-stay : (h : Sections) (m k : ℕ) → in_limits h ≡ true → h.statements - m + k ≤ 1024 → in_limits (edited_sections h m k) ≡ true
unfolding in_limits
limits-stay h m k e q =
    let e₄ = both (leb h.objects 16 && leb 1 h.variables && leb h.variables 16 && leb h.statements 1024) (start_right h) e in
    let e₃ = both (leb h.objects 16 && leb 1 h.variables && leb h.variables 16) (leb h.statements 1024) e₄.0 in
    let s : start_right (edited_sections h m k) ≡ true = start-stays h m k e₄.1 in
    rw (e₃.0, le-leb (h.statements - m + k) 1024 q, s)

no_both : (x y : ℕ) (c d : ℕ) → (x ≡ c → y ≡ d → ⊥) → (eqb x c && eqb y d) ≡ false
no_both x y c d q = go (eqb x c) refl (eqb y d) refl
  where
    go : (a : Bool) → eqb x c ≡ a → (b : Bool) → eqb y d ≡ b → (a && b) ≡ false
    go true e true f = absurd (q (eqb-true x c e) (eqb-true y d f))
    go true e false f = refl
    go false e b f = refl

module _ (T : List ℤ) (h : Sections) (p m k : ℕ) (X : List ℤ) (fits : Fits h p m k) where
  abbrev pub U : List ℤ
  U = edited T h p m k X

  abbrev pub g : Sections
  g = edited_sections h m k

  pub edited-long : length U ≡ table_end g
  unfolding edited
  edited-long = length-tabulate (table_end g) (edited_word T h p m k X)

  pub word-at : (i : ℕ) → i < table_end g → word U i ≡ biased (edited_word T h p m k X i)
  unfolding word edited
  word-at i q = ap biased (get_d_tabulate (table_end g) (edited_word T h p m k X) i (pos 0) q)

  -- Words that stay, before the statement p.
  pub word-stays : (i : ℕ) → i < statement_start h p → (i ≡ 5 → ⊥) → (i ≡ 6 → h.start ≡ 8 → ⊥) → word U i ≡ word T i
  unfolding edited_word word
  word-stays i q r s =
      word-at i (omega (arith, fits.within))
      ∙ ap biased (rw (ne_eqb i 5 r, no_both i h.start 6 8 s, lt-ltb i (statement_start h p) q))

  -- Words behind the text.
  pub word_moved : (i : ℕ) → statement_start h (p + k) ≤ i → i < table_end g → word U i ≡ word T (i + 7 * m - 7 * k)
  unfolding edited_word word
  word_moved i q r =
      let v = limits h fits.limits in
      let b = start-least h fits.limits in
      word-at i r ∙ ap biased
      (rw (
        ne_eqb i 5 (λ e. omega arith),
        no_both i h.start 6 8 (λ e f. omega (arith, v.some)),
        le-ltb i (statement_start h p) (omega arith),
        le-ltb i
            (statement_start h (p + k)) q,
      ))

  -- Words of the text.
  pub word-text : (i : ℕ) → statement_start h p ≤ i → i < statement_start h (p + k) → word U i ≡ word X (i - statement_start h p)
  unfolding edited_word word
  word-text i q r =
      let v = limits h fits.limits in
      let b = start-least h fits.limits in
      word-at i (omega (arith, fits.within)) ∙ ap biased
      (rw (
        ne_eqb i 5 (λ e. omega (arith, v.some)),
        no_both i h.start 6 8 (λ e f. omega (arith, v.some)),
        le-ltb i (statement_start h p) q,
        lt-ltb i
            (statement_start h (p + k)) r,
      ))

  -- ---- what the table declares stays

  -- A word of the objects' or the variables' section.
  declared-word : (i : ℕ) → h.start ≤ i → i < statement_start h 0 → word U i ≡ word T i
  declared-word i q r =
      let b = start-least h fits.limits in
      word-stays i (omega arith) (λ e. omega arith) (λ e f. omega arith)

  limits-after : in_limits g ≡ true
  limits-after = limits-stay h m k fits.limits fits.few

  kind-stays : (v : ℕ) → kind_at U g v ≡ kind_at T h v
  unfolding kind_at is_variable
  kind-stays v = rw (limits-after, fits.limits) (go (ltb v h.variables) refl)
    where
      go : (b : Bool) → ltb v h.variables ≡ b → cond b (kind_of (word U (variable_start h v))) None ≡ cond b (kind_of (word T (variable_start h v))) None
      go true e = let q = ltb-true v h.variables e in ap kind_of (declared-word (variable_start h v) (omega arith) (omega arith))
      go false e = refl

  terminated-stays : (o : ℕ) → object_terminated U g o ≡ object_terminated T h o
  unfolding object_terminated
  terminated-stays o = rw (limits-after, fits.limits) (go (ltb o h.objects) refl)
    where
      go : (b : Bool) → ltb o h.objects ≡ b → (b && ltb (word U (object_start h o)) bias) ≡ (b && ltb (word T (object_start h o)) bias)
      go true e = let q = ltb-true o h.objects e in rw (declared-word (object_start h o) (omega arith) (omega arith))
      go false e = refl

  pub declared-stays : SameDeclared T h U g
  declared-stays = record { kinds = kind-stays; terminated = terminated-stays; objects = refl; variables = refl; rows = refl }

  pub object-stays : (o : ℕ) → object_at U g o ≡ object_at T h o
  unfolding object_at
  object-stays o = rw (limits-after, fits.limits) (go (ltb o h.objects) refl)
    where
      go : (b : Bool) → ltb o h.objects ≡ b → cond b (object_cells (word U (object_start h o))) 0 ≡ cond b (object_cells (word T (object_start h o))) 0
      go true e = let q = ltb-true o h.objects e in rw (declared-word (object_start h o) (omega arith) (omega arith))
      go false e = refl

  variable-words : (v : ℕ) → v < h.variables → variable_words_at U (variable_start h v) ≡ variable_words_at T (variable_start h v)
  unfolding variable_words_at end_words_at
  variable-words v q =
      rw (
        declared-word (variable_start h v) (omega arith) (omega arith),
        declared-word (variable_start h v + 1) (omega arith) (omega arith),
        declared-word (variable_start h v + 2) (omega arith) (omega arith),
        declared-word (variable_start h v + 2 + 1) (omega arith) (omega arith),
        declared-word (variable_start h v + 2 + 2) (omega arith) (omega arith),
        declared-word (variable_start h v + 5) (omega arith) (omega arith),
        declared-word (variable_start h v + 5 + 1) (omega arith) (omega arith),
        declared-word (variable_start h v + 5 + 2) (omega arith) (omega arith),
      )

  pub variable-stays : (v : ℕ) → variable_at U g v ≡ variable_at T h v
  unfolding variable_at is_variable
  variable-stays v = rw (limits-after, fits.limits) (go (ltb v h.variables) refl)
    where
      go : (b : Bool) → ltb v h.variables ≡ b → cond b (variable_of U g (variable_words_at U (variable_start h v))) None
          ≡ cond b (variable_of T h (variable_words_at T (variable_start h v))) None
      go true e =
          let q = ltb-true v h.variables e in
          ap (variable_of U g) (variable-words v q) ∙ variable-of declared-stays T (variable_start h v)
      go false e = refl

  -- A word of the rows' section.
  row_word : (i : ℕ) → i < 6 * h.rows → word U (rows_start g + i) ≡ word T (rows_start h + i)
  row_word i q =
      let w = fits.within in
      let z : rows_start h + i ≡ rows_start g + i + 7 * m - 7 * k = omega arith in
      rw z (word_moved (rows_start g + i) (omega arith) (omega arith))

  end-words : (i : ℕ) → i + 2 < 6 * h.rows → end_words_at U (rows_start g + i) ≡ end_words_at T (rows_start h + i)
  unfolding end_words_at
  end-words i q =
      let a : rows_start g + i + 1 ≡ rows_start g + (i + 1) = omega arith in
      let b : rows_start g + i + 2 ≡ rows_start g + (i + 2) = omega arith in
      let c : rows_start h + i + 1 ≡ rows_start h + (i + 1) = omega arith in
      let d : rows_start h + i + 2 ≡ rows_start h + (i + 2) = omega arith in
      rw (a, b, c, d, row_word i (omega arith), row_word (i + 1) (omega arith), row_word (i + 2) (omega arith))

  row_words : (r : ℕ) → r < h.rows → row_words_at U (row_start g r) ≡ row_words_at T (row_start h r)
  unfolding row_words_at
  row_words r q =
      let a : row_start g r + 3 ≡ rows_start g + (6 * r + 3) = omega arith in
      let b : row_start h r + 3 ≡ rows_start h + (6 * r + 3) = omega arith in
      rw (a, b, end-words (6 * r) (omega arith), end-words (6 * r + 3) (omega arith))

  pub row_stays : (r : ℕ) → row_at U g r ≡ row_at T h r
  unfolding row_at
  row_stays r = rw (limits-after, fits.limits) (go (ltb r h.rows) refl)
    where
      go : (b : Bool) → ltb r h.rows ≡ b → cond b (row_of U g (row_words_at U (row_start g r))) None
          ≡ cond b (row_of T h (row_words_at T (row_start h r))) None
      go true e = let q = ltb-true r h.rows e in ap (row_of U g) (row_words r q) ∙ row-of declared-stays T (row_start h r)
      go false e = refl

  -- ---- the statements before the text and those behind it

  -- A record of seven words that stands at another place.
  statement-same : (a b : ℕ) → a < g.statements → b < h.statements
      → ((i : ℕ) → i < 7 → word U (statement_start h a + i) ≡ word T (statement_start h b + i)) → statement_at U g a ≡ statement_at T h b
  unfolding statement_at fields_at
  statement-same a b p q f =
      let z : statement_start h a ≡ statement_start h a + 0 = omega arith in
      let y : statement_start h b ≡ statement_start h b + 0 = omega arith in
      let w : word U (statement_start h a) ≡ word T (statement_start h b) = rw (z, y) (f 0 (omega arith)) in
      rw (limits-after, fits.limits, lt-ltb a g.statements p, lt-ltb b h.statements q)
      (rw (w, f 1 (omega arith), f 2 (omega arith), f 3 (omega arith), f 4 (omega arith), f 5 (omega arith), f 6 (omega arith))
      (kind-read declared-stays _))

  pub statements-before : Agree T h 0 U g 0 p
  statements-before = record { each = go }
    where
      go : (i : ℕ) → i < p → statement_at U g (0 + i) ≡ statement_at T h (0 + i)
      go i q =
          let b = start-least h fits.limits in
          let w = fits.within in
          statement-same (0 + i) (0 + i) (omega arith) (omega arith)
          (λ j r. word-stays (statement_start h (0 + i) + j) (omega arith) (λ e. omega arith) (λ e f. omega arith))

  pub statements-behind : Agree T h (p + m) U g (p + k) (h.statements - (p + m))
  statements-behind = record { each = go }
    where
      go : (i : ℕ) → i < h.statements - (p + m) → statement_at U g (p + k + i) ≡ statement_at T h (p + m + i)
      go i q =
          let w = fits.within in
          statement-same (p + k + i) (p + m + i) (omega arith) (omega arith)
          (λ j r. let z : statement_start h (p + m + i) + j ≡ statement_start h (p + k + i) + j + 7 * m - 7 * k = omega arith in
          rw z (word_moved (statement_start h (p + k + i) + j) (omega arith) (omega arith)))
