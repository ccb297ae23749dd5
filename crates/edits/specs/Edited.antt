-- Point 13: "insert, replace or remove one top-level statement with its blocks": the table after an edit.
use Rattle.edits.specs.declared.TextFault.TheVariants.{Record, Layout}
use Rattle.std.specs.Prelude.{ℕ, ◌+◌, ◌-◌, ◌*◌, ◌/◌, Bool, true, false, ◌&&◌, cond, List, [], ◌∷◌, ℤ, pos, length, get_or, eqb, ltb, Ok, Err, Result}
use Rattle.arrays.specs.Tabulate.{tabulate}
use Rattle.words.specs.Sections.{statement_start, rows_start, table_end}
use Rattle.words.specs.declared.sections.Sections.{Sections}
use Rattle.answers.specs.declared.refusals.Refusal.{Refusal}
use Rattle.table.specs.Form.{lowest_statement}
use Rattle.blocks.specs.Tree.{tree}
use Rattle.blocks.specs.Layout.{layout}
use Rattle.edits.specs.TopLevel.{single}
use Rattle.edits.specs.declared.TextFault.{TextFault}

-- The sections once m statements have made room for k others.
abbrev pub edited_sections : Sections → ℕ → ℕ → Sections
edited_sections h m k =
    record { start = h.start; objects = h.objects; variables = h.variables; statements = h.statements - m + k; rows = h.rows }

-- The word i of the table once the m statements from p on have made room for the k statements of the text X. The length of the statements' section and the
-- offset of the section behind it change; every other word is the table's or the text's.
unfoldable pub edited_word : List ℤ → Sections → ℕ → ℕ → ℕ → List ℤ → ℕ → ℤ
edited_word T h p m k X i =
    cond (eqb i 5) (pos (7 * (h.statements - m + k)))
    (cond (eqb i 6 && eqb h.start 8) (pos (rows_start (edited_sections h m k)))
    (cond (ltb i (statement_start h p)) (get_or T i (pos 0))
    (cond (ltb i (statement_start h (p + k))) (get_or X (i - statement_start h p) (pos 0)) (get_or T (i + 7 * m - 7 * k) (pos 0)))))

-- The table after the edit.
unfoldable pub edited : List ℤ → Sections → ℕ → ℕ → ℕ → List ℤ → List ℤ
edited T h p m k X = tabulate (table_end (edited_sections h m k)) (edited_word T h p m k X)

-- ---- the text of an edit

-- The text alone: a table that declares the same, its statements the whole records of the text.
abbrev pub text_sections : Sections → List ℤ → Sections
text_sections h X = edited_sections h h.statements (length X / 7)

abbrev pub text_table : List ℤ → Sections → List ℤ → List ℤ
text_table T h X = edited T h 0 h.statements (length X / 7) X

unfoldable pub is_empty : List Refusal → Bool
is_empty [] = true
is_empty (r ∷ rs) = false

-- "Then a new text that breaks 5, is not exactly one statement with its blocks (6) or breaks 6 is refused with that number": of a text of n words, as a table.
-- (5 over all whole records; a text that is no whole number of records, or empty, is not exactly one statement.)
unfoldable pub text_of : List ℤ → Sections → ℕ → Result (Unit {0}) TextFault
text_of U g n =
    cond (ltb (lowest_statement U g) g.statements) (Err Record)
    (cond (eqb n (7 * g.statements) && (is_empty (layout U g) && single (tree U g))) (Ok tt) (Err Layout))
