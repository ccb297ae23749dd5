-- An edit that is not refused: where it is, what it removes, and the places at or before it, which are places of the edited table.
use Rattle.std.specs.Prelude.{ℕ, zero, suc, ◌+◌, ◌-◌, ◌<◌, ◌≤◌, ◌≡◌, Bool, ◌&&◌, ◌||◌, cond, List, [], ◌∷◌, ℤ, length, get_or, take}
use Rattle.std.proofs.Math.Path.{refl}
use Rattle.std.proofs.Common.{sym, ◌∙◌, ap, eq-or-lt_of_le, arith}
use Rattle.std.proofs.Math.Bool.{true, false}
use Rattle.std.proofs.Math.Logic.{⊎_elim}
use borrow.Author.Tests.{leb-true, le-leb, lt-leb, eqb-true, eqb-false, eq-eqb, lt-ltb, le-ltb, ltb-true, ltb-false}
use Rattle.std.proofs.Math.Dec.{eqb, ltb, leb}
use Rattle.facts.specs.declared.FactSet.{FactSet}
use Rattle.words.specs.declared.sections.Sections.{Sections}
use Rattle.statements.specs.Statements.{statement_at}
use Rattle.table.specs.Form.{lowest_from}
use Rattle.blocks.specs.Tree.{Block, tree}
use Rattle.blocks.specs.Layout.{layout}
use Rattle.blocks.specs.Shape.{size, Laid}
use Rattle.blocks.specs.ShapeLaws.{table-laid}
use Rattle.rules.specs.FactSets.{State}
use Rattle.rules.specs.Stored.{new_state}
use Rattle.edits.specs.TopLevel.{top_level, span_of}
use Rattle.edits.specs.Cuts.{Cut, landing, landing-top, landing-end, cut-top, cut-back, cut-first, cut-last, first, rest, first-laid, rest-laid, span-laid}
use Rattle.edits.specs.Cuts.{top-past}
use Rattle.edits.specs.Edited.{edited_sections, edited}
use Rattle.edits.specs.EditedLaws.{Fits}
use Rattle.edits.specs.EditLaws.{span-least}
use Rattle.edits.specs.EditedTree.{edited-laid, laid-layout}
use Rattle.plans.specs.Plans.{removed_by, is_position}
use Rattle.plans.specs.PlanLaws.{placed}
use Rattle.plans.specs.declared.Edit.{Edit}
use Rattle.plans.specs.declared.Edit.TheVariants.{Insert, Replace, Remove, Unknown}
use Rattle.places.specs.Reached.{Reached, reached-stays}
use Rattle.places.specs.Places.{Place, place_of, places, up_to}
use Rattle.editor.specs.Kept.{AllReached}

-- ---- positions

module _ (T : List ℤ) (h : Sections) (l : layout T h ≡ []) where
  -- The way from the last place at or before p lands on p before the end exactly where p is a top-level statement.
  pub position-top : {q : ℕ} {w : State FactSet} (p n : ℕ) → Reached T h q w → q ≤ p → p ≤ q + n
      → (eqb (landing n T h q p) p && ltb p h.statements) ≡ top_level (tree T h) p
  position-top {q} p n r i j =
      landing-top n q h.statements p r.cut.back r.cut.back-laid j ∙ sym (cut-back p (table-laid T h l) r.cut i)

  pub position-cut : (p : ℕ) → top_level (tree T h) p ≡ true → Cut T h 0 0 p h.statements
  position-cut p e = cut-top (tree T h) 0 h.statements p (table-laid T h l) e

  -- "an insertion may follow the last"
  pub end-cut : Cut T h 0 0 h.statements h.statements
  end-cut = cut-last (table-laid T h l)

-- Behind the statement that is replaced or removed; at the place of an insertion.
pub span-cut : {T : List ℤ} {h : Sections} {p m : ℕ} → Cut T h 0 0 p h.statements → p < h.statements → m ≡ span_of (statement_at T h p)
    → Cut T h 0 p (p + m) h.statements
span-cut {T} {h} {p} {m} c i e =
    let b = c.back in
    let z : m ≡ size (first b) = e ∙ span-laid b c.back-laid i in
    rw z (record { front = first b; back = rest b; front-laid = first-laid b c.back-laid; back-laid = rest-laid b c.back-laid })

pub here-cut : {T : List ℤ} {h : Sections} {p : ℕ} → Cut T h 0 0 p h.statements → Cut T h 0 p (p + 0) h.statements
here-cut {T} {h} {p} c = let z : p + 0 ≡ p = omega arith in rw z (cut-first c.back-laid)

-- ---- the code's test of the position is the tree's

module _ (T : List ℤ) (h : Sections) (l : layout T h ≡ []) {q : ℕ} {w : State FactSet} (r : Reached T h q w) (at : ℕ) (before : q ≤ at) where
  no_top : h.statements ≤ at → top_level (tree T h) at ≡ false
  no_top p = let o = table-laid T h l in top-past (tree T h) 0 h.statements at o.numbered o.ends p

  top-lands : at < h.statements → eqb (landing at T h q at) at ≡ top_level (tree T h) at
  top-lands p = and-true (eqb (landing at T h q at) at) (lt-ltb at h.statements p) ∙ position-top T h l at at r before (omega arith)
    where
      and-true : (x : Bool) {y : Bool} → y ≡ true → x ≡ (x && y)
      and-true true e = sym e
      and-true false e = refl

  end-lands : at ≡ h.statements → eqb (landing at T h q at) at ≡ true
  end-lands e =
      eq-eqb (landing at T h q at) at (rw e (landing-end h.statements q h.statements r.cut.back r.cut.back-laid (omega arith)))

  -- What is replaced or removed ends before the end.
  span-within : top_level (tree T h) at ≡ true → at < h.statements → leb (span_of (statement_at T h at)) (h.statements - at) ≡ true
  span-within e p =
      let c = span-cut (position-cut T h l at e) p refl in
      le-leb (span_of (statement_at T h at)) (h.statements - at) (omega (arith, c.back-laid.ends, c.front-laid.ends))

  placed-insert : placed T h q at 0 ≡ (top_level (tree T h) at || eqb at h.statements)
  unfolding placed
  placed-insert = go (ltb at h.statements) refl (eqb at h.statements) refl
    where
      go : (b : Bool) → ltb at h.statements ≡ b → (c : Bool) → eqb at h.statements ≡ c
          → (leb at h.statements && (eqb (landing at T h q at) at && leb 0 (h.statements - at))) ≡ (top_level (tree T h) at || c)
      go true b c e =
          let p = ltb-true at h.statements b in
          rw (le-leb at h.statements (omega arith), le-leb 0 (h.statements - at) (omega arith), top-lands p)
          (same (top_level (tree T h) at) c (λ o. omega (arith, eqb-true at h.statements (e ∙ o))))
        where
          same : (x y : Bool) → (y ≡ true → ⊥) → (x && true) ≡ (x || y)
          same true y f = refl
          same false true f = absurd (f refl)
          same false false f = refl
      go false b true e =
          let z = eqb-true at h.statements e in
          rw (le-leb at h.statements (omega arith), le-leb 0 (h.statements - at) (omega arith), end-lands z, no_top (omega arith))
      go false b false e =
          let p = ltb-false at h.statements b in
          let n = eqb-false at h.statements e in
          rw (lt-leb at h.statements (past p n), no_top p)
        where
          past : h.statements ≤ at → (at ≡ h.statements → ⊥) → h.statements < at
          past p n = ⊎_elim (λ (z : h.statements ≡ at). absurd (n (sym z))) (λ (z : h.statements < at). z) (eq-or-lt_of_le p)

  placed-other : placed T h q at (span_of (statement_at T h at)) ≡ top_level (tree T h) at
  unfolding placed
  placed-other = go (ltb at h.statements) refl (top_level (tree T h) at) refl
    where
      go : (b : Bool) → ltb at h.statements ≡ b → (c : Bool) → top_level (tree T h) at ≡ c
          → (leb at h.statements && (eqb (landing at T h q at) at && leb (span_of (statement_at T h at)) (h.statements - at))) ≡ c
      go true b true e =
          let p = ltb-true at h.statements b in
          rw (le-leb at h.statements (omega arith), top-lands p, e, span-within e p)
      go true b false e =
          let p = ltb-true at h.statements b in
          rw (le-leb at h.statements (omega arith), top-lands p, e)
      go false b c e =
          let p = ltb-false at h.statements b in
          let s = span-least (statement_at T h at) in
          rw (lt-leb (span_of (statement_at T h at)) (h.statements - at) (omega arith))
          (none (leb at h.statements) (eqb (landing at T h q at) at) ∙ (sym (no_top p) ∙ e))
        where
          none : (x y : Bool) → (x && (y && false)) ≡ false
          none true true = refl
          none true false = refl
          none false y = refl

  pub placed-position : (e : Edit) → placed T h q at (removed_by e (span_of (statement_at T h at))) ≡ is_position e T h at
  placed-position Insert = placed-insert
  placed-position Replace = placed-other
  placed-position Remove = placed-other
  placed-position Unknown = placed-other

-- ---- the places at or before the edit

below-lowest : (f : ℕ → Bool) (n i k : ℕ) → i ≤ k → k < lowest_from f i n → f k ≡ true
unfolding lowest_from
below-lowest f zero i k p q = absurd (omega arith)
below-lowest f (suc n) i k p q = go (f i) refl q (λ a b. below-lowest f n (i + 1) k a b)
  where
    go : (b : Bool) → f i ≡ b → k < cond b (lowest_from f (i + 1) n) i → (i + 1 ≤ k → k < lowest_from f (i + 1) n → f k ≡ true) → f k ≡ true
    go true e r later = ⊎_elim (λ (s : i ≡ k). ap f (sym s) ∙ e) (λ (m : i < k). later (omega arith) r) (eq-or-lt_of_le p)
    go false e r later = absurd (omega arith)

pub up-to-before : (P : List Place) (p j : ℕ) → j < up_to P p → (get_or P j (place_of 0 new_state)).position ≤ p
unfolding up_to
up-to-before P p j q =
    leb-true (get_or P j (place_of 0 new_state)).position p
    (below-lowest (λ i. leb (get_or P i (place_of 0 new_state)).position p) (length P) 0 j (omega arith) q)

module _ (T : List ℤ) (h : Sections) (p m k : ℕ) (X : List ℤ) (fits : Fits h p m k) (whole : Block) (l : Laid T h 0 0 h.statements whole)
    (c : Cut T h 0 0 p h.statements) (e : Cut T h 0 p (p + m) h.statements) (x : Block)
    (text : Laid (edited T h p m k X) (edited_sections h m k) 0 p (p + k) x) where
  all_stay : (P : List Place) (n : ℕ) → AllReached T h P → ((j : ℕ) → j < n → (get_or P j (place_of 0 new_state)).position ≤ p)
      → AllReached (edited T h p m k X) (edited_sections h m k) (take n P)
  all_stay P zero a f = tt
  all_stay [] (suc n) a f = tt
  all_stay (y ∷ P) (suc n) a f =
      (reached-stays T h p m k X fits whole l c e x text a.0 (f 0 (omega arith)), all_stay P n a.1 (λ j i. f (suc j) (omega arith)))

  -- Causes 6 and the places. (Causes 1 to 5: `edited-form`, `removed-form` in edits.)
  pub edited-layout : layout (edited T h p m k X) (edited_sections h m k) ≡ []
  edited-layout = laid-layout (edited-laid T h p m k X fits whole l c e x text)

  pub places-stay : (P : List Place) → AllReached T h P → AllReached (edited T h p m k X) (edited_sections h m k) (take (up_to P p) P)
  places-stay P a = all_stay P (up_to P p) a (λ j i. up-to-before P p j i)
