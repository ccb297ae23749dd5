-- The tree of an edited table: the statements before the edit, the text, and the statements behind it at their new numbers.
use Rattle.std.specs.Prelude.{ℕ, ◌+◌, ◌-◌, ◌*◌, ◌<◌, ◌≤◌, ◌≡◌, refl, List, [], ℤ}
use Rattle.std.proofs.Common.{sym, ◌∙◌, ap, arith}
use Rattle.words.specs.declared.sections.Sections.{Sections}
use Rattle.blocks.specs.Tree.{Block, parse, tree}
use Rattle.blocks.specs.Layout.{layout}
use Rattle.blocks.specs.Shape.{Laid}
use Rattle.edits.specs.Followed.{followed, moved, moved_same, laid-followed, laid-moved, laid-parsed, laid-clear, Agree, agree-from}
use Rattle.edits.specs.Cuts.{Cut, cut-between}
use Rattle.edits.specs.Edited.{edited_sections, edited}
use Rattle.edits.specs.EditedLaws.{Fits, statements-before, statements-behind}

-- A table whose statements are laid out has no refusal 6, and its tree is that of its records.
pub laid-layout : {T : List ℤ} {h : Sections} {t : Block} → Laid T h 0 0 h.statements t → layout T h ≡ []
unfolding layout
laid-layout {T} {h} l = laid-clear l h.statements (omega arith)

pub laid-tree : {T : List ℤ} {h : Sections} {t : Block} → Laid T h 0 0 h.statements t → tree T h ≡ t
unfolding tree
laid-tree {T} {h} l = laid-parsed l h.statements (omega arith)

module _ (T : List ℤ) (h : Sections) (p m k : ℕ) (X : List ℤ) (fits : Fits h p m k) where
  abbrev U : List ℤ
  U = edited T h p m k X

  abbrev g : Sections
  g = edited_sections h m k

  -- What stood before the edit stands there.
  pub laid-before : {d a b : ℕ} {t : Block} → Laid T h d a b t → a ≤ b → b ≤ p → Laid U g d a b t
  laid-before {d} {a} {b} {t} l r q =
      let e = moved_same t a l.numbered in
      let z : Laid U g d a b (moved a t) = laid-moved l (omega arith) r
      (agree-from (statements-before T h p m k X fits) a (b - a) (omega arith) (omega arith) (omega arith)) in
      rw e at z

  -- What stood behind stands behind the text.
  pub laid-behind : {d : ℕ} {t : Block} → Laid T h d (p + m) h.statements t → Laid U g d (p + k) g.statements (moved (p + k) t)
  laid-behind l = let w = fits.within in laid-moved l (omega arith) w (statements-behind T h p m k X fits)

  module _ (whole : Block) (l : Laid T h 0 0 h.statements whole) (c : Cut T h 0 0 p h.statements) (e : Cut T h 0 p (p + m) h.statements)
      (x : Block) (text : Laid U g 0 p (p + k) x) where
    pub after-cut : Laid U g 0 p g.statements (followed x (moved (p + k) e.back))
    after-cut = laid-followed text (laid-behind e.back-laid)

    pub edited-laid : Laid U g 0 0 g.statements (followed c.front (followed x (moved (p + k) e.back)))
    edited-laid = laid-followed (laid-before c.front-laid (omega arith) (omega arith)) after-cut

    -- A cut at or before the edit is one of the edited table.
    unfoldable pub cut-stays : {q : ℕ} → (b : Cut T h 0 0 q h.statements) → q ≤ p → Cut U g 0 0 q g.statements
    cut-stays {q} b i =
        let s = cut-between l b c i in
        record {
          front = b.front;
          back = followed s.front (followed x (moved (p + k) e.back));
          front-laid = laid-before b.front-laid (omega arith) i;
          back-laid = laid-followed (laid-before s.front-laid i (omega arith)) after-cut;
        }
