-- What holds of a table that causes 1 to 5 do not refuse.
use Rattle.table.specs.declared.variables.BoundsRow.{BoundsRow}
use Rattle.std.specs.Prelude.{ℕ, ◌+◌, ◌-◌, ◌*◌, ◌≤◌, ◌<◌, ◌≡◌, refl, Bool, ◌&&◌, ◌||◌, cond, List, ℤ, pos, negsuc, length, get_or, leb, ltb, is_some}
use Rattle.std.specs.Prelude.{Err, None, Ok, Option, Result, Some}
use Rattle.std.proofs.Common.{sym, ap, ◌∙◌, leb-true, eqb-true, ne_eqb, ltb-false, arith}
use Rattle.std.proofs.Math.Bool.{true, false}
use Rattle.std.proofs.lemmas.Bool.{false≢true}
use Rattle.std.proofs.Math.Dec.{eqb}
use Rattle.answers.specs.declared.refusals.Refusal.{Refusal}
use Rattle.answers.specs.declared.refusals.Refusal.TheVariants.{Length, Directory, ObjectLength, VariableRecord, StatementRecord}
use Rattle.sums.specs.Numbers.{bias}
use Rattle.words.specs.Words.{biased, word}
use Rattle.words.specs.Sections.{in_limits, Limits, variables_start, statements_start, rows_start, table_end}
use Rattle.words.specs.SectionsLaws.{both, limits}
use Rattle.words.specs.declared.sections.Sections.{Sections}
use Rattle.statements.specs.Statements.{statement_at}
use Rattle.statements.specs.declared.Statement.{Statement}
use Rattle.table.specs.Variables.{variable_at, object_at, row_at}
use Rattle.table.specs.declared.variables.End.{End}
use Rattle.table.specs.declared.variables.Variable.{Variable}
use Rattle.table.specs.Form.{length_right, is_number, four_pairs, sections_of, directory_right, head_right, object_right}
use Rattle.table.specs.Form.{variable_reads, statement_reads, lowest_object, lowest_variable}
use Rattle.table.specs.Form.{lowest_statement, items_form, form_of, fourth_right, row_reads, lowest_row}
use Rattle.table.specs.Searches.{holds-below}

pub record Formed (table : List ℤ) (h : Sections) : Type 0 where
  pub limits : Limits h
  pub long : length table ≡ table_end h
  pub objects : (o : ℕ) → o < h.objects → (1 ≤ object_at table h o) × (object_at table h o ≤ 1000000)
  pub variables : (v : ℕ) → v < h.variables → (x : Variable) × (variable_at table h v ≡ Some x)
  pub rows : (r : ℕ) → r < h.rows → (l u : End) × (row_at table h r ≡ Some (record { lower = l; upper = u }))
  pub statements : (a : ℕ) → a < h.statements → (s : Statement) × (statement_at table h a ≡ Some s)

-- The last of two forms is well formed, and the first is a refusal.
passes : (b : Bool) (r : Refusal) (f : Result Sections Refusal) (h : Sections) → cond b (Err r) f ≡ Ok h → (b ≡ false) × (f ≡ Ok h)
passes true r f h e = let z : ◌≡◌ {A = ℕ} 0 1 = cc in absurd (omega arith)
passes false r f h e = (refl, e)

holds : (b : Bool) (r : Refusal) (f : Result Sections Refusal) (h : Sections) → cond b f (Err r) ≡ Ok h → (b ≡ true) × (f ≡ Ok h)
holds true r f h e = (refl, e)
holds false r f h e = let z : ◌≡◌ {A = ℕ} 0 1 = cc in absurd (omega arith)

variable-read : (r : Option Variable) → is_some r ≡ true → (x : Variable) × (r ≡ Some x)
variable-read (Some x) e = (x, refl)
variable-read None e = let z : ◌≡◌ {A = ℕ} 0 1 = cc in absurd (omega arith)

statement-read : (r : Option Statement) → is_some r ≡ true → (s : Statement) × (r ≡ Some s)
statement-read (Some s) e = (s, refl)
statement-read None e = let z : ◌≡◌ {A = ℕ} 0 1 = cc in absurd (omega arith)

row_read : (r : Option BoundsRow) → is_some r ≡ true → (l u : End) × (r ≡ Some (record { lower = l; upper = u }))
row_read (Some b) e = (b.lower, b.upper, refl)
row_read None e = let z : ◌≡◌ {A = ℕ} 0 1 = cc in absurd (omega arith)

object-length : (table : List ℤ) (h : Sections) (o : ℕ) → object_right table h o ≡ true → (1 ≤ object_at table h o) × (object_at table h o ≤ 1000000)
unfolding object_right
object-length table h o e =
    let p = both (leb 1 (object_at table h o)) (leb (object_at table h o) 1000000) e in
    (leb-true 1 (object_at table h o) p.0, leb-true (object_at table h o) 1000000 p.1)

-- The first test of the directory.
pub directory-limits : (table : List ℤ) (h : Sections) → directory_right table h ≡ true → in_limits h ≡ true
unfolding directory_right
directory-limits table h e = (both (in_limits h) _ e).0

-- The last test of the directory: the last section ends the table.
pub directory-long : (table : List ℤ) (h : Sections) → directory_right table h ≡ true → Limits h × (length table ≡ table_end h)
unfolding directory_right
directory-long table h e =
    let words = is_number h.start (word table 0) && is_number h.objects (word table 1) && is_number (variables_start h) (word table 2)
    && is_number (8 * h.variables) (word table 3) && is_number (statements_start h) (word table 4) && is_number (7 * h.statements) (word table 5)
    && fourth_right table h in
    let ends = eqb (length table) (table_end h) in
    let p = both (in_limits h) (words && ends) e in
    (limits h p.0, eqb-true (length table) (table_end h) (both words ends p.1).1)

items-formed : (table : List ℤ) (g h : Sections) → directory_right table g ≡ true → items_form table g ≡ Ok h → (g ≡ h) × Formed table g
unfolding items_form lowest_object lowest_variable lowest_row lowest_statement variable_reads row_reads statement_reads
items-formed table g h d e =
    let o = passes (ltb (lowest_object table g) g.objects) (ObjectLength (lowest_object table g)) _ h e in
    let v = passes (ltb (lowest_variable table g) g.variables) (VariableRecord (lowest_variable table g)) _ h o.1 in
    let w = passes (ltb (lowest_row table g) g.rows) (VariableRecord (g.variables + lowest_row table g)) _ h v.1 in
    let s = passes (ltb (lowest_statement table g) g.statements) (StatementRecord (lowest_statement table g)) (Ok g) h w.1 in
    let same : Ok g ≡ Ok h = s.1 in
    let l = directory-long table g d in (
      cc,
      record {
        limits = l.0;
        long = l.1;
        objects = λ i b. object-length table g i (holds-below (object_right table g) g.objects (ltb-false (lowest_object table g) g.objects o.0) i b);
        variables = λ i b. variable-read (variable_at table g i)
            (holds-below (variable_reads table g) g.variables (ltb-false (lowest_variable table g) g.variables v.0) i b);
        rows = λ i b. row_read (row_at table g i) (holds-below (row_reads table g) g.rows (ltb-false (lowest_row table g) g.rows w.0) i b);
        statements = λ i b. statement-read (statement_at table g i)
            (holds-below (statement_reads table g) g.statements (ltb-false (lowest_statement table g) g.statements s.0) i b);
      },
    )

-- A table that is well formed: its sizes, its length, and every record reads.
pub well-formed : (table : List ℤ) (h : Sections) → form_of table ≡ Ok h → Formed table h
unfolding form_of
well-formed table h e =
    let a = holds (length_right table) Length _ h e in
    let b = holds (directory_right table (sections_of table)) Directory (items_form table (sections_of table)) h a.1 in
    let p = items-formed table (sections_of table) h b.0 b.1 in
    let same = p.0 in
    rw same at p.1

-- The sections of a well-formed table are those that its directory gives, and causes 1 and 2 do not refuse it.
pub formed-sections : (table : List ℤ) (h : Sections) → form_of table ≡ Ok h → h ≡ sections_of table
unfolding form_of
formed-sections table h e =
    let g : Sections = sections_of table in
    let a = holds (length_right table) Length _ h e in
    let b = holds (directory_right table g) Directory (items_form table g) h a.1 in
    sym (items-formed table g h b.0 b.1).0

pub formed-head : (table : List ℤ) (h : Sections) → form_of table ≡ Ok h → head_right table ≡ true
unfolding form_of head_right
formed-head table h e =
    let g : Sections = sections_of table in
    let a = holds (length_right table) Length _ h e in
    let b = holds (directory_right table g) Directory (items_form table g) h a.1 in
    rw (a.0, b.0) refl

-- ---- a table that causes 1 and 2 do not refuse

-- A word that is a number, as it is in the table.
number_word : (n : ℕ) (z : ℤ) → is_number n (biased z) ≡ true → z ≡ pos n
unfolding is_number biased
number_word n (pos m) e =
    let p = both (leb bias (m + bias)) (eqb (m + bias - bias) n) e in
    let q : m ≡ n = omega (arith, eqb-true (m + bias - bias) n p.1) in ap pos q
number_word n (negsuc m) e =
    let p = both (leb bias (bias - (m + 1))) (eqb (bias - (m + 1) - bias) n) e in
    let l = leb-true bias (bias - (m + 1)) p.0 in absurd (omega (arith, l))

start_is : (table : List ℤ) (b : Bool) → four_pairs table ≡ b → (sections_of table).start ≡ cond b 8 6
unfolding sections_of
start_is table b e = rw e refl

-- The directory has 6 or 8 words.
pub start-six : (table : List ℤ) → four_pairs table ≡ false → (sections_of table).start ≡ 6
start-six table e = start_is table false e

pub start-eight : (table : List ℤ) → four_pairs table ≡ true → (sections_of table).start ≡ 8
start-eight table e = start_is table true e

pub start-same : (table other : List ℤ) → four_pairs table ≡ four_pairs other → (sections_of table).start ≡ (sections_of other).start
start-same table other e = start_is table (four_pairs other) e ∙ sym (start_is other (four_pairs other) refl)

pub start-least : (table : List ℤ) → 6 ≤ (sections_of table).start
start-least table = go (four_pairs table) refl
  where
    go : (b : Bool) → four_pairs table ≡ b → 6 ≤ (sections_of table).start
    go true e = omega (arith, start-eight table e)
    go false e = omega (arith, start-six table e)

module _ (table : List ℤ) (right : head_right table ≡ true) where
  abbrev own : Sections
  own = sections_of table

  directory : directory_right table own ≡ true
  unfolding head_right
  directory = (both (length_right table) (directory_right table own) right).1

  pub head-limits : in_limits own ≡ true
  head-limits = directory-limits table own directory

  pub head-long : length table ≡ table_end own
  head-long = (directory-long table own directory).1

  -- The tests of the directory's words.
  abbrev n₀ : Bool
  n₀ = is_number own.start (word table 0)

  abbrev n₁ : Bool
  n₁ = is_number own.objects (word table 1)

  abbrev n₂ : Bool
  n₂ = is_number (variables_start own) (word table 2)

  abbrev n₃ : Bool
  n₃ = is_number (8 * own.variables) (word table 3)

  abbrev n₄ : Bool
  n₄ = is_number (statements_start own) (word table 4)

  abbrev n₅ : Bool
  n₅ = is_number (7 * own.statements) (word table 5)

  numbered : (n₀ && n₁ && n₂ && n₃ && n₄ && n₅ && fourth_right table own) ≡ true
  unfolding directory_right
  numbered =
      (both (n₀ && n₁ && n₂ && n₃ && n₄ && n₅ && fourth_right table own) (eqb (length table) (table_end own))
      (both (in_limits own) (n₀ && n₁ && n₂ && n₃ && n₄ && n₅ && fourth_right table own && eqb (length table) (table_end own)) directory).1).0

  to-third : (n₀ && n₁ && n₂ && n₃ && n₄) ≡ true
  to-third = (both (n₀ && n₁ && n₂ && n₃ && n₄) n₅ (both (n₀ && n₁ && n₂ && n₃ && n₄ && n₅) (fourth_right table own) numbered).0).0

  second-right : n₂ ≡ true
  second-right = (both (n₀ && n₁) n₂ (both (n₀ && n₁ && n₂) n₃ (both (n₀ && n₁ && n₂ && n₃) n₄ to-third).0).0).1

  third-right : n₄ ≡ true
  third-right = (both (n₀ && n₁ && n₂ && n₃) n₄ to-third).1

  fourth-right : own.start ≡ 8 → is_number (rows_start own) (word table 6) ≡ true
  unfolding fourth_right
  fourth-right e =
      let f : (eqb own.start 6 || is_number (rows_start own) (word table 6) && is_number (6 * own.rows) (word table 7)) ≡ true =
      (both (n₀ && n₁ && n₂ && n₃ && n₄ && n₅) (fourth_right table own) numbered).1 in
      go (eqb own.start 6) (ne_eqb own.start 6 (λ z. omega (arith, e))) f
    where
      go : (b : Bool) → b ≡ false → (b || is_number (rows_start own) (word table 6) && is_number (6 * own.rows) (word table 7)) ≡ true
          → is_number (rows_start own) (word table 6) ≡ true
      go true z q = absurd (false≢true (sym z))
      go false z q = (both (is_number (rows_start own) (word table 6)) (is_number (6 * own.rows) (word table 7)) q).0

  -- The offsets, as they are in the table.
  pub second-offset : get_or table 2 (pos 0) ≡ pos (variables_start own)
  unfolding word
  second-offset = number_word (variables_start own) (get_or table 2 (pos 0)) second-right

  pub third-offset : get_or table 4 (pos 0) ≡ pos (statements_start own)
  unfolding word
  third-offset = number_word (statements_start own) (get_or table 4 (pos 0)) third-right

  pub fourth-offset : own.start ≡ 8 → get_or table 6 (pos 0) ≡ pos (rows_start own)
  unfolding word
  fourth-offset e = number_word (rows_start own) (get_or table 6 (pos 0)) (fourth-right e)
