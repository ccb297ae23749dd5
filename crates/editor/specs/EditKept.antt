-- AN EDIT THAT IS MADE keeps what calls leave: the edited table passes causes 1 to 6, and a walk from nothing over it comes to each place at or before the
-- edit.
-- So the walk from the last of them has the verdict of a check from nothing (`rechecked`).
use Rattle.std.specs.Prelude.{ℕ, zero, suc, ◌+◌, ◌-◌, ◌*◌, ◌/◌, ◌<◌, ◌≤◌, ◌≡◌, refl, Bool, true, false, ◌&&◌, cond, List, [], ◌∷◌, ℤ, length, get_or, take}
use Rattle.std.specs.Prelude.{eqb, Ok}
use Rattle.std.specs.Prelude.{ltb, Ok}
use Rattle.std.proofs.Common.{sym, ◌∙◌, ap, arith, ltb-false, eq-eqb}
use Rattle.words.specs.Sections.{in_limits, table_end}
use Rattle.words.specs.declared.sections.Sections.{Sections}
use Rattle.statements.specs.Statements.{statement_at}
use Rattle.table.specs.Form.{form_of}
use Rattle.table.specs.FormLaws.{directory-limits}
use Rattle.blocks.specs.Tree.{Block, nil, tree}
use Rattle.blocks.specs.Layout.{layout}
use Rattle.blocks.specs.Shape.{Laid}
use Rattle.blocks.specs.ShapeLaws.{table-laid}
use Rattle.rules.specs.Stored.{new_state}
use Rattle.edits.specs.TopLevel.{top_level, span_of}
use Rattle.edits.specs.Cuts.{Cut, landing, none-laid}
use Rattle.edits.specs.Edited.{edited_sections, edited, text_sections, text_table, text_of}
use Rattle.edits.specs.EditedLaws.{Fits}
use Rattle.edits.specs.EditLaws.{right-text, span-least}
use Rattle.edits.specs.FormKept.{tested, well-tested, tested-after}
use Rattle.edits.specs.TextLaws.{text-block, text-laid, edited-form}
use Rattle.plans.specs.Plans.{removed_by, plan_of, splice}
use Rattle.plans.specs.PlanLaws.{Placed, planned, right-only, same-splice}
use Rattle.plans.specs.declared.Edit.{Edit}
use Rattle.plans.specs.declared.Edit.TheVariants.{Insert, Replace, Remove, Unknown}
use Rattle.places.specs.Positions.{staying, positions, Ascending}
use Rattle.places.specs.Places.{Place, place_of, places, up_to, last_place}
use Rattle.places.specs.Reached.{Reached}
use Rattle.editor.specs.Kept.{AllReached, Kept}
use Rattle.editor.specs.KeptLaws.{last-reached, all_take}
use Rattle.editor.specs.EditPlaces.{position-top, position-cut, end-cut, span-cut, here-cut, up-to-before, edited-layout, places-stay}

take-before : (P : List Place) (n p : ℕ) → ((j : ℕ) → j < n → (get_or P j (place_of 0 new_state)).position ≤ p) → (j : ℕ)
    → (get_or (take n P) j (place_of 0 new_state)).position ≤ p
take-before P zero p f j = omega arith
take-before [] (suc n) p f j = omega arith
take-before (x ∷ P) (suc n) p f zero = f 0 (omega arith)
take-before (x ∷ P) (suc n) p f (suc j) = take-before P n p (λ i l. f (suc i) (omega arith)) j

-- The last of the places that stay is at or before the edit.
pub stay-before : (P : List Place) (at : ℕ) → (last_place (take (up_to P at) P)).position ≤ at
unfolding last_place
stay-before P at = take-before P (up_to P at) at (λ j i. up-to-before P at j i) (length (take (up_to P at) P) - 1)

-- The table and the places after the edit.
pub record Ready (U : List ℤ) (g : Sections) (P : List Place) : Type 0 where
  pub form : form_of U ≡ Ok g
  pub laid : layout U g ≡ []
  pub reached : AllReached U g P

module _ (T : List ℤ) (h : Sections) (S : List ℕ) (k : Kept T h S) (at : ℕ) where
  -- The places that stay, and where the walk begins.
  abbrev pub stay : List Place
  stay = take (up_to (places S) at) (places S)

  in-limits : in_limits h ≡ true
  in-limits = directory-limits T h (tested T h k.form).directory

  pub walk_from : Reached T h (last_place stay).position (last_place stay).state
  walk_from = last-reached T h stay (table-laid T h k.laid) (all_take T h (up_to (places S) at) (places S) k.reached)

  pub from-before : (last_place stay).position ≤ at
  from-before = stay-before (places S) at

  -- The position is a top-level statement, or the end.
  at_cut : landing at T h (last_place stay).position at ≡ at → at ≤ h.statements → Cut T h 0 0 at h.statements
  at_cut e w = go (ltb at h.statements) refl
    where
      go : (b : Bool) → ltb at h.statements ≡ b → Cut T h 0 0 at h.statements
      go true q =
          position-cut T h k.laid at
          (sym (position-top T h k.laid at at walk_from from-before (omega arith)) ∙ rw (eq-eqb (landing at T h (last_place stay).position at) at e, q))
      go false q = let z : at ≡ h.statements = omega (arith, ltb-false at h.statements q) in rw z (end-cut T h k.laid)

  module _ (m : ℕ) (X : List ℤ) (c : Cut T h 0 0 at h.statements) (e : Cut T h 0 at (at + m) h.statements) where
    text-ready : Fits h at m (length X / 7) → text_of (text_table T h X) (text_sections h X) (length X) ≡ Ok tt
        → Ready (edited T h at m (length X / 7) X) (edited_sections h m (length X / 7)) stay
    text-ready fits t =
        let right = right-text (text_table T h X) (text_sections h X) (length X) t in
        let alone : Fits h 0 h.statements (length X / 7) =
        record { limits = fits.limits; sizes = fits.sizes; within = omega arith; few = omega (arith, fits.few) } in
        let x = text-block T h at m X fits alone right in
        let o = text-laid T h at m X fits alone right in
        record {
          form = edited-form T h at m X fits alone right k.form;
          laid = edited-layout T h at m (length X / 7) X fits (tree T h) (table-laid T h k.laid) c e x o;
          reached = places-stay T h at m (length X / 7) X fits (tree T h) (table-laid T h k.laid) c e x o (places S) k.reached;
        }

    removed-ready : Fits h at m 0 → Ready (edited T h at m 0 X) (edited_sections h m 0) stay
    removed-ready fits =
        let z : at + 0 ≡ at = omega arith in
        let o : Laid (edited T h at m 0 X) (edited_sections h m 0) 0 at (at + 0) nil = rw z (none-laid at) in
        record {
          form = well-tested (tested-after T h at m 0 X fits (tested T h k.form) (λ b p q. absurd (omega arith)));
          laid = edited-layout T h at m 0 X fits (tree T h) (table-laid T h k.laid) c e nil o;
          reached = places-stay T h at m 0 X fits (tree T h) (table-laid T h k.laid) c e nil o (places S) k.reached;
        }

  -- Where the plan is to change the table, the edited table is ready for the walk from the last place that stays.
  pub edit-ready : {m k : ℕ} (there : Bool) (room : ℕ) (e : Edit) (X : List ℤ) → Fits h at m k
      → Placed T h (last_place stay).position at (removed_by e (span_of (statement_at T h at))) → plan_of there T room h at e X ≡ Ok (splice m k)
      → Ready (edited T h at m k X) (edited_sections h m k) stay
  edit-ready {m} {k} there room Insert X u g p =
      let q = planned there T room h at Insert X m k p in
      let t = right-only at (text_of (text_table T h X) (text_sections h X) (length X)) 0 (length X / 7) m k q.kind in
      let c = at_cut g.lands g.within in
      let i = t.1 in
      let j = t.2 in
      rw (sym i, sym j) (text-ready 0 X c (here-cut c) (rw (sym i, sym j) at u) t.0)
  edit-ready {m} {k} there room Replace X u g p =
      let s = span_of (statement_at T h at) in
      let q = planned there T room h at Replace X m k p in
      let t = right-only at (text_of (text_table T h X) (text_sections h X) (length X)) s (length X / 7) m k q.kind in
      let c = at_cut g.lands g.within in
      let i = t.1 in
      let j = t.2 in
      rw (sym i, sym j) (text-ready s X c (span-cut c (omega (arith, g.some, span-least (statement_at T h at))) refl) (rw (sym i, sym j) at u) t.0)
  edit-ready {m} {k} there room Remove X u g p =
      let s = span_of (statement_at T h at) in
      let q = planned there T room h at Remove X m k p in
      let o = same-splice q.kind in
      let c = at_cut g.lands g.within in
      let i = o.0 in
      let j = o.1 in
      rw (sym i, sym j) (removed-ready s X c (span-cut c (omega (arith, g.some, span-least (statement_at T h at))) refl) (rw (sym i, sym j) at u))
  edit-ready {m} {k} there room Unknown X u g p =
      let z = (planned there T room h at Unknown X m k p).kind in let o : ◌≡◌ {A = ℕ} 0 1 = cc in absurd (omega arith)
