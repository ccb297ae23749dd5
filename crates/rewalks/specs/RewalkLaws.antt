-- Laws of the walk from the last place.
use Rattle.std.specs.Prelude.{ℕ, ◌+◌, ◌-◌, ◌<◌, ◌≤◌, ◌≡◌, Bool, true, false, cond, ℤ, length, get_or, Err, Ok, Result}
use Rattle.std.proofs.Math.Path.{refl}
use Rattle.std.proofs.Common.{sym, ◌∙◌, ap, ap₂, arith, pos_of_ne-zero}
use mathlib.Core.List.{List, [], ◌∷◌}
use borrow.Author.Tests.{lt-ltb, le-ltb}
use Rattle.std.proofs.Math.ListN.{get_or-eq_default}
use Rattle.facts.specs.Store.{new_set}
use Rattle.answers.specs.Refusals.{place}
use Rattle.answers.specs.declared.refusals.Refusal.{Refusal}
use Rattle.answers.specs.declared.refusals.Refusal.TheVariants.{BlockLayout}
use Rattle.words.specs.declared.sections.Sections.{Sections}
use Rattle.statements.specs.Statements.{statement_at}
use Rattle.blocks.specs.Layout.{also, block_layout}
use Rattle.blocks.specs.LayoutLaws.{none-refused}
use Rattle.blocks.specs.Parts.{verdict}
use Rattle.blocks.specs.Shape.{Laid}
use Rattle.blocks.specs.ShapeLaws.{laid}
use Rattle.rules.specs.Stored.{new_state}
use Rattle.rules.specs.BoundsRules.{own_rows}
use Rattle.rules.specs.Verdict.{verdict_of}
use Rattle.declared.specs.Force.{state_of}
use Rattle.edits.specs.TopLevel.{span_of}
use Rattle.edits.specs.Edited.{is_empty}
use Rattle.places.specs.Positions.{place_count, position_at, begun_to, walked_from}
use Rattle.places.specs.Places.{Place, place_of, state_at, rows_at, places, last_place}
use Rattle.places.specs.StoreLaws.{Restored, places-long, places-at}
use Rattle.rewalks.specs.Walking.{rest_of, WalkedOn}
use Rattle.rewalks.specs.Rewalks.{Begins, layout_from, RewalkedFrom, Rewalks}
use Rattle.rewalks.specs.declared.Begin.{Begin}
use Rattle.rewalks.specs.declared.Rewalked.{Rewalked}

-- ---- where it begins

pub begins-first : (S : List ℕ) {b : Begin} → place_count S ≡ 0 → b.position ≡ 0 → b.facts ≡ new_set → b.rows.each ≡ own_rows → Begins (places S) b
unfolding last_place
begins-first S {b} e p f r = record {
  place = placed p f r ∙ sym (get_or-eq_default (places S) (place_of 0 new_state) {n = length (places S) - 1} (omega (arith, places-long S)));
}
  where
    placed : b.position ≡ 0 → b.facts ≡ new_set → b.rows.each ≡ own_rows → place_of b.position (state_of b.facts b.rows.each) ≡ place_of 0 new_state
    placed p f r = rw (p, f, r)

pub begins-last : (S : List ℕ) {b : Begin} {n : ℕ} → n ≡ place_count S → (n ≡ 0 → ⊥) → b.position ≡ position_at S (n - 1) → b.facts ≡ (state_at S (n - 1)).facts
    → b.rows.each ≡ rows_at S (n - 1) → Begins (places S) b
unfolding last_place state_at
begins-last S {b} {n} e q p f r = record {
  place = ap₂ place_of p (ap₂ state_of f r) ∙ sym (rw (places-long S, sym e) (places-at S (n - 1) (place_of 0 new_state) (omega (arith, e, pos_of_ne-zero q))));
}

-- ---- how far it comes

pub begun_all : (T : List ℤ) (h : Sections) {v : Result (Unit {0}) Refusal} → v ≡ Ok tt → h.statements ≡ begun_to T h v
unfolding begun_to
begun_all T h e = rw e

pub begun-past : (T : List ℤ) (h : Sections) {v : Result (Unit {0}) Refusal} {r : Refusal} {a : ℕ} → v ≡ Err r → a ≡ place r → h.statements ≤ a
    → h.statements ≡ begun_to T h v
unfolding begun_to
begun-past T h {v} {r} {a} e f p = rw (e, le-ltb (place r) h.statements (omega arith))

pub begun-at : (T : List ℤ) (h : Sections) {v : Result (Unit {0}) Refusal} {r : Refusal} {a s : ℕ} → v ≡ Err r → a ≡ place r → a < h.statements
    → s ≡ span_of (statement_at T h a) → a + s ≡ begun_to T h v
unfolding begun_to
begun-at T h {v} {r} {a} {s} e f p q = rw (e, lt-ltb (place r) h.statements (omega arith), q, f)

-- ---- the layout from there

pub laid_from : (T : List ℤ) (h : Sections) (a : ℕ) {l : Result (Unit {0}) Refusal} → a ≤ h.statements
    → l ≡ verdict (block_layout h.statements T h 0 a h.statements)
    → l ≡ Ok tt → Laid T h 0 a h.statements (rest_of T h a)
laid_from T h a {l} q e p = laid h.statements T h 0 a h.statements q (omega arith) (none-refused _ l e p)

-- Refused: its first fault is the verdict, whatever follows.
first-fault : (F G : List Refusal) {l : Result (Unit {0}) Refusal} {x : Refusal} → l ≡ verdict F → l ≡ Err x
    → (is_empty F ≡ false) × (Err x ≡ verdict_of (also F G))
unfolding verdict is_empty also verdict_of
first-fault [] G e p = let i : ◌≡◌ {A = ℕ} 0 1 = cc in absurd (omega arith)
first-fault (y ∷ F) G {x = x} e p = let i : y ≡ x = cc in (refl, ap Err (sym i))

layout-within : (T : List ℤ) (h : Sections) (q : ℕ) → q ≤ h.statements → layout_from T h q ≡ block_layout h.statements T h 0 q h.statements
unfolding layout_from
layout-within T h q p = rw (le-ltb h.statements q p)

stays : (F : List Refusal) (S : List ℕ) (P : List Place) → is_empty F ≡ false → Restored S (cond (is_empty F) P (places S)) S
stays F S P e = record { long = refl; holds = rw e }

-- ---- from where the code begins

module _ (T : List ℤ) (h : Sections) (K S : List ℕ) (b : Place) (r : Rewalked) where
  pub past_end : h.statements < b.position → r.verdict ≡ Err (BlockLayout b.position) → r.walked ≡ 0 → RewalkedFrom T h K S b r S
  unfolding layout_from is_empty also verdict_of
  past_end p v n =
      let z = lt-ltb h.statements b.position p in
      record { verdict = rw z v; walked = rw z n; left = rw z (record { long = refl; holds = refl }) }

  module _ (within : b.position ≤ h.statements) {l : Result (Unit {0}) Refusal} (said : l ≡ verdict
      (block_layout h.statements T h 0 b.position h.statements)) where
    pub not-laid : {x : Refusal} → l ≡ Err x → r.verdict ≡ Err x → r.walked ≡ 0 → RewalkedFrom T h K S b r S
    not-laid p v n =
        let z = layout-within T h b.position within in
        let F = block_layout h.statements T h 0 b.position h.statements in
        record {
          verdict = rw z (v ∙ (first-fault F _ said p).1);
          walked = rw (z, (first-fault F [] said p).0) n;
          left = rw z (stays F S _ (first-fault F [] said p).0);
        }

    pub rewalked : {Q : List ℕ} → l ≡ Ok tt → WalkedOn T h K b.position b.state S r.verdict Q
        → r.walked ≡ walked_from T h b.position r.verdict → RewalkedFrom T h K S b r Q
    unfolding is_empty also
    rewalked p w n =
        let z : layout_from T h b.position ≡ [] = layout-within T h b.position within ∙ none-refused _ _ said p in
        record { verdict = rw z w.said; walked = rw z n; left = rw z w.left }

pub from_last : {T : List ℤ} {h : Sections} {K S : List ℕ} {b : Begin} {r : Rewalked} {Q : List ℕ} → Begins (places S) b
    → RewalkedFrom T h K S (place_of b.position (state_of b.facts b.rows.each)) r Q → Rewalks T h K S r Q
from_last begins w = let z = begins.place in rw z at w
