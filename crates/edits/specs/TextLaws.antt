-- A right text stands in the edited table as it stands alone: so the edited table passes causes 1 to 6 again.
use Rattle.std.specs.Prelude.{ℕ, ◌+◌, ◌-◌, ◌*◌, ◌/◌, ◌<◌, ◌≤◌, ◌≡◌, refl, Bool, true, false, List, [], ℤ, length, Ok, is_some}
use Rattle.std.proofs.Common.{sym, ◌∙◌, lt-ltb}
use Rattle.std.proofs.Math.Path.{ap}
use native.Mathlib.Omega.{arith}
use Rattle.words.specs.Words.{word, fields_at}
use Rattle.words.specs.Sections.{in_limits, statement_start}
use Rattle.words.specs.declared.sections.Sections.{Sections}
use Rattle.statements.specs.Statements.{statement_at, kind_read}
use Rattle.table.specs.Form.{statement_reads, lowest_statement, form_of}
use Rattle.table.specs.Searches.{holds-below}
use Rattle.blocks.specs.Tree.{Block, nil, tree}
use Rattle.blocks.specs.Layout.{layout}
use Rattle.blocks.specs.Shape.{Laid}
use Rattle.blocks.specs.ShapeLaws.{table-laid}
use Rattle.edits.specs.Followed.{Agree, moved, laid-moved, followed}
use Rattle.edits.specs.Cuts.{Cut, none-laid}
use Rattle.edits.specs.SameDeclared.{SameDeclared, kind-read}
use Rattle.edits.specs.Edited.{edited_sections, edited, text_sections, text_table}
use Rattle.edits.specs.EditedLaws.{Fits, limits-stay, declared-stays, word-text}
use Rattle.edits.specs.EditedTree.{edited-laid, laid-layout}
use Rattle.edits.specs.EditLaws.{TextRight}
use Rattle.edits.specs.FormKept.{Tested, tested, well-tested, tested-after}

-- The same seven words, in tables that declare the same.
record_same : {T : List ℤ} {h : Sections} {U : List ℤ} {g : Sections} → SameDeclared T h U g → in_limits h ≡ true → in_limits g ≡ true
    → (a b : ℕ) → a < g.statements → b < h.statements
    → ((i : ℕ) → i < 7 → word U (statement_start g a + i) ≡ word T (statement_start h b + i)) → statement_at U g a ≡ statement_at T h b
unfolding statement_at fields_at
record_same {T} {h} {U} {g} d v w a b p q f =
    let z : statement_start g a ≡ statement_start g a + 0 = omega arith in
    let y : statement_start h b ≡ statement_start h b + 0 = omega arith in
    let k : word U (statement_start g a) ≡ word T (statement_start h b) = rw (z, y) (f 0 (omega arith)) in
    rw (v, w, lt-ltb a g.statements p, lt-ltb b h.statements q)
    (rw (k, f 1 (omega arith), f 2 (omega arith), f 3 (omega arith), f 4 (omega arith), f 5 (omega arith), f 6 (omega arith)) (kind-read d _))

declared-both : {T : List ℤ} {h : Sections} {U : List ℤ} {g : Sections} {W : List ℤ} {f : Sections}
    → SameDeclared T h U g → SameDeclared T h W f → SameDeclared U g W f
declared-both p q = record {
  kinds = λ v. q.kinds v ∙ sym (p.kinds v);
  terminated = λ o. q.terminated o ∙ sym (p.terminated o);
  objects = q.objects ∙ sym p.objects;
  variables = q.variables ∙ sym p.variables;
  rows = q.rows ∙ sym p.rows;
}

module _ (T : List ℤ) (h : Sections) (p m : ℕ) (X : List ℤ) (fits : Fits h p m (length X / 7)) (alone : Fits h 0 h.statements (length X / 7)) where
  abbrev k : ℕ
  k = length X / 7

  abbrev U : List ℤ
  U = edited T h p m k X

  abbrev g : Sections
  g = edited_sections h m k

  text-agrees : Agree (text_table T h X) (text_sections h X) 0 U g p k
  text-agrees = record { each = go }
    where
      go : (i : ℕ) → i < k → statement_at U g (p + i) ≡ statement_at (text_table T h X) (text_sections h X) (0 + i)
      go i q =
          let w = fits.within in
          record_same (declared-both (declared-stays T h 0 h.statements k X alone) (declared-stays T h p m k X fits))
          (limits-stay h h.statements k alone.limits alone.few) (limits-stay h m k fits.limits fits.few) (p + i) (0 + i) (omega arith)
          (omega arith)
          (λ j r. let e : statement_start h (p + i) + j - statement_start h p ≡ statement_start h (0 + i) + j - statement_start h 0 = omega arith in
          word-text T h p m k X fits (statement_start h (p + i) + j) (omega arith) (omega arith)
          ∙ (ap (word X) e ∙ sym (word-text T h 0 h.statements k X alone (statement_start h (0 + i) + j) (omega arith) (omega arith))))

  module _ (right : TextRight (text_table T h X) (text_sections h X) (length X)) where
    -- The text's statement in the edited table.
    abbrev pub text-block : Block
    text-block = moved p (tree (text_table T h X) (text_sections h X))

    pub text-laid : Laid U g 0 p (p + k) text-block
    text-laid =
        let z : h.statements - h.statements + k - 0 ≡ k = omega arith in
        laid-moved (table-laid (text_table T h X) (text_sections h X) right.laid) (omega arith) (omega arith) (rw z text-agrees)

    reads-alone : (a : ℕ) → a < k → statement_reads (text_table T h X) (text_sections h X) a ≡ true
    unfolding lowest_statement
    reads-alone a q = holds-below (statement_reads (text_table T h X) (text_sections h X)) (text_sections h X).statements right.reads a (omega arith)

    text-reads : (a : ℕ) → p ≤ a → a < p + k → statement_reads U g a ≡ true
    unfolding statement_reads
    text-reads a l q =
        let z : p + (a - p) ≡ a = omega arith in
        let y : 0 + (a - p) ≡ a - p = omega arith in
        ap is_some (rw (z, y) at (text-agrees.each (a - p) (omega arith))) ∙ reads-alone (a - p) (omega arith)

    -- Causes 1 to 5 pass again.
    pub edited-form : form_of T ≡ Ok h → form_of U ≡ Ok g
    edited-form e = well-tested (tested-after T h p m k X fits (tested T h e) text-reads)

-- A statement is removed.
module _ (T : List ℤ) (h : Sections) (p m : ℕ) (fits : Fits h p m 0) where
  pub none-standing : Laid (edited T h p m 0 []) (edited_sections h m 0) 0 p (p + 0) nil
  none-standing = let z : p + 0 ≡ p = omega arith in rw z (none-laid p)

  pub removed-form : form_of T ≡ Ok h → form_of (edited T h p m 0 []) ≡ Ok (edited_sections h m 0)
  removed-form e = well-tested (tested-after T h p m 0 [] fits (tested T h e) (λ a l q. absurd (omega arith)))
