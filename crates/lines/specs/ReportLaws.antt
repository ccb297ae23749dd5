-- The parts of each line put together.
use Rattle.std.specs.Prelude.{ℕ, ◌≤◌, ◌≡◌, List, [], ◌++◌}
use borrow.Author.Tests.{eq-eqb, ne_eqb}
use Rattle.answers.specs.Refusals.{number, place, pointer}
use Rattle.answers.specs.declared.refusals.Refusal.{Refusal}
use Rattle.answers.specs.Answers.{check_number, check_statement}
use Rattle.answers.specs.declared.stops.Check.{Check}
use Rattle.answers.specs.declared.stops.Outcome.{Outcome}
use Rattle.answers.specs.declared.stops.Outcome.TheVariants.{Done, Spent, Stopped, Refused}
use Rattle.text.specs.Text.{bytes_of, Grown, Line}
use Rattle.text.specs.declared.Text.{Text}
use Rattle.lines.specs.Report.{numeral, refused_text, stopped_text, entry_text, left_line, row_line, first_row_line}

module _ {before : List ℕ} {len : ℕ} {t : Text} where
  pub refused-eight : (r : Refusal) {n p q : ℕ} → n ≡ number r → p ≡ place r → q ≡ pointer r → n ≡ 8
      → Grown before ((bytes_of ": refused " ++ numeral n) ++ ((bytes_of " at statement " ++ numeral p) ++ (bytes_of ", pointer " ++ numeral q))) len t
      → Grown before (refused_text r) len t
  unfolding refused_text
  refused-eight r {n} en ep eq e g = rw (← en, ← ep, ← eq, eq-eqb n 8 e) g

  pub refused-other : (r : Refusal) {n p : ℕ} → n ≡ number r → p ≡ place r → (n ≡ 8 → ⊥)
      → Grown before ((bytes_of ": refused " ++ numeral n) ++ (bytes_of " at place " ++ numeral p)) len t → Grown before (refused_text r) len t
  unfolding refused_text
  refused-other r {n} en ep e g = rw (← en, ← ep, ne_eqb n 8 e) g

  pub stopped-at : (c : Check) {n a : ℕ} → n ≡ check_number c → a ≡ check_statement c
      → Grown before ((bytes_of ": stopped at check " ++ numeral n) ++ (bytes_of " at statement " ++ numeral a)) len t → Grown before (stopped_text c) len t
  unfolding stopped_text
  stopped-at c en ea g = rw (← en, ← ea) g

  pub entry_done : (row : ℕ) {o : Outcome} {n : ℕ} → o ≡ Done n → Grown before (bytes_of ": row " ++ numeral row) len t → Grown before (entry_text row o) len t
  unfolding entry_text
  entry_done row e g = rw e g

  pub entry-spent : (row : ℕ) {o : Outcome} {n a : ℕ} → o ≡ Spent n a
      → Grown before ((bytes_of ": spent after " ++ numeral n) ++ (bytes_of " steps at statement " ++ numeral a)) len t → Grown before (entry_text row o) len t
  unfolding entry_text
  entry-spent row e g = rw e g

  pub entry-stopped : (row : ℕ) {o : Outcome} {n : ℕ} {c : Check} → o ≡ Stopped n c → Grown before (stopped_text c) len t
      → Grown before (entry_text row o) len t
  unfolding entry_text
  entry-stopped row e g = rw e g

  pub entry-refused : (row : ℕ) {o : Outcome} {r : Refusal} → o ≡ Refused r → Grown before (refused_text r) len t → Grown before (entry_text row o) len t
  unfolding entry_text
  entry-refused row e g = rw e g

module _ {t : Text} (fits : t.len ≤ 120) where
  pub full : {rows : ℕ} → rows ≡ 0 → Grown [] (bytes_of "the block is full\n") 0 t → Line (left_line rows) t
  unfolding left_line
  full {rows} e g = record { text = rw (eq-eqb rows 0 e) g.text; fits = fits }

  pub some_left : {rows : ℕ} → (rows ≡ 0 → ⊥) → Grown [] ((bytes_of "rows left: " ++ numeral rows) ++ bytes_of "\n") 0 t → Line (left_line rows) t
  unfolding left_line
  some_left {rows} e g = record { text = rw (ne_eqb rows 0 e) g.text; fits = fits }

  pub free-row : (row : ℕ) {boat : ℕ} → boat ≡ 0 → Grown [] ((bytes_of "row " ++ numeral row) ++ bytes_of " is free\n") 0 t → Line (row_line row boat) t
  unfolding row_line
  free-row row {boat} e g = record { text = rw (eq-eqb boat 0 e) g.text; fits = fits }

  pub taken-row : (row : ℕ) {boat : ℕ} → (boat ≡ 0 → ⊥)
      → Grown [] ((bytes_of "row " ++ numeral row) ++ ((bytes_of " holds boat " ++ numeral boat) ++ bytes_of "\n")) 0 t
      → Line (row_line row boat) t
  unfolding row_line
  taken-row row {boat} e g = record { text = rw (ne_eqb boat 0 e) g.text; fits = fits }

  pub same_row : {before after : ℕ} → before ≡ after → Grown [] ((bytes_of "the other laptop's first row still holds " ++ numeral before) ++ bytes_of "\n") 0 t
      → Line (first_row_line before after) t
  unfolding first_row_line
  same_row {before} {after} e g = record { text = rw (eq-eqb before after e) g.text; fits = fits }

  pub other_row : {before after : ℕ} → (before ≡ after → ⊥)
      → Grown [] (((bytes_of "the other laptop's first row held " ++ numeral before) ++ (bytes_of " and now holds " ++ numeral after)) ++ bytes_of "\n") 0 t
      → Line (first_row_line before after) t
  unfolding first_row_line
  other_row {before} {after} e g = record { text = rw (ne_eqb before after e) g.text; fits = fits }
