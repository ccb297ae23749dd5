-- Laws by which the calls of the editor are proved.
use Rattle.std.specs.Prelude.{ℕ, zero, suc, ◌+◌, ◌-◌, ◌*◌, ◌/◌, ◌<◌, ◌≤◌, Bool, ◌&&◌, List, [], ◌∷◌, ◌++◌, ℤ, pos, get_or, take, drop, eqb, leb, ltb, Ok}
use Rattle.std.specs.Prelude.{Result}
use Rattle.std.specs.Prelude.{None, Ok, Option, Some}
use Rattle.std.proofs.Math.Path.{◌≡◌, refl, sym, ap}
use Rattle.std.proofs.Common.{◌∙◌, pos_of_ne-zero, length-append, get_or-take, length-take-le, take_at}
use Rattle.std.proofs.Math.Bool.{true, false, cond}
use native.Mathlib.Omega.{arith}
use borrow.Author.Tests.{eqb-true, leb-true, le-leb, lt-leb, ltb-false}
use Rattle.std.proofs.Math.ListN.{length}
use Rattle.sums.specs.Numbers.{bias}
use Rattle.answers.specs.declared.refusals.Refusal.{Refusal}
use Rattle.answers.specs.declared.refusals.Refusal.TheVariants.{EditPosition}
use Rattle.words.specs.Words.{word}
use Rattle.words.specs.Fields.{plain}
use Rattle.words.specs.Sections.{in_limits, Limits, table_end}
use Rattle.words.specs.SectionsLaws.{both, limits}
use Rattle.words.specs.declared.sections.Sections.{Sections}
use Rattle.statements.specs.Statements.{statement_at}
use Rattle.table.specs.Variables.{object_at}
use Rattle.table.specs.Form.{four_pairs, sections_of, directory_right, object_right, lowest_object, lowest_from, form_of}
use Rattle.table.specs.FormLaws.{directory-limits}
use Rattle.table.specs.Searches.{holds-below}
use Rattle.rules.specs.Ranges.{Measured}
use Rattle.rules.specs.Verdict.{environment_of}
use Rattle.rules.specs.Stored.{new_state}
use Rattle.checker.specs.VerdictLaws.{measured}
use Rattle.edits.specs.TopLevel.{span_of}
use Rattle.edits.specs.Edited.{edited_sections, edited}
use Rattle.edits.specs.EditedLaws.{Fits, start-least, object-stays, edited-long}
use Rattle.edits.specs.FormKept.{tested, directory-end}
use Rattle.edits.specs.EditLaws.{edited-take}
use Rattle.plans.specs.Plans.{removed_by, is_position, plan_of, splice}
use Rattle.plans.specs.PlanLaws.{placed, is-placed, planned, plan-fits}
use Rattle.plans.specs.declared.Edit.{Edit}
use Rattle.plans.specs.declared.Splice.{Splice}
use Rattle.places.specs.Positions.{place_count, position_at, capacity, positions, staying}
use Rattle.places.specs.Places.{Place, place_of, places, up_to, last_place}
use Rattle.places.specs.StoreLaws.{Restored, places-long, places-at}
use Rattle.places.specs.PositionLaws.{positions_in, positions-places, staying-places, ascending-staying, ascending-stored}
use Rattle.rewalks.specs.Walking.{capacity-same}
use Rattle.rewalks.specs.Rewalks.{Rewalks}
use Rattle.rewalks.specs.declared.Rewalked.{Rewalked}
use Rattle.editor.specs.Kept.{Kept}
use Rattle.editor.specs.KeptLaws.{rechecked}
use Rattle.editor.specs.EditPlaces.{placed-position}
use Rattle.editor.specs.EditKept.{Ready, stay, walk_from, from-before, edit-ready}
use Rattle.editor.specs.Editor.{head_right, head_as, head_of, unmade_by, Unmade, Written, PlanSaid, EditSaid, KeptSaid, EditCall}
use Rattle.editor.specs.declared.Answer.{Answer}
use Rattle.editor.specs.declared.Prepared.{Prepared}

-- ---- the head of a table: its directory and its objects

-- "its length in cells, 1 to 1,000,000"
abbrev pub Lengths : List ℤ → Sections → Type 0
Lengths T h = (o : ℕ) → o < h.objects → (1 ≤ object_at T h o) × (object_at T h o ≤ 1000000)

module _ (T : List ℤ) (h : Sections) where
  pub head-wrong-directory : {b : Bool} → b ≡ directory_right T h → b ≡ false → false ≡ head_right T h
  unfolding head_right
  head-wrong-directory e q = rw (sym e ∙ q)

  pub head-objects : {b : Bool} {n : ℕ} → b ≡ directory_right T h → b ≡ true → n ≡ lowest_object T h → leb h.objects n ≡ head_right T h
  unfolding head_right
  head-objects e q i = rw (sym e ∙ q, i)

  object-right : (o : ℕ) → object_right T h o ≡ true → (1 ≤ object_at T h o) × (object_at T h o ≤ 1000000)
  unfolding object_right
  object-right o q =
      let p = both (leb 1 (object_at T h o)) (leb (object_at T h o) 1000000) q in
      (leb-true 1 (object_at T h o) p.0, leb-true (object_at T h o) 1000000 p.1)

  pub record HeadRead : Type 0 where
    pub limits : in_limits h ≡ true
    pub sizes : Limits h
    pub long : length T ≡ table_end h
    pub lengths : Lengths T h

  head_read : head_right T h ≡ true → HeadRead
  unfolding head_right lowest_object
  head_read e =
      let p = both (directory_right T h) (leb h.objects (lowest_object T h)) e in
      let v = directory-limits T h p.0 in
      let n = leb-true h.objects (lowest_object T h) p.1 in
      record {
        limits = v;
        sizes = limits h v;
        long = directory-end T h p.0;
        lengths = λ o l. object-right o (holds-below (object_right T h) h.objects (omega arith) o l);
      }

-- The tests of the code, in turn.
module _ (B : List ℤ) {h : Sections} (e : h ≡ sections_of B) where
  said-as : (k : Option Sections) → k ≡ head_as B h → k ≡ head_of B
  unfolding head_of
  said-as k p = p ∙ ap (head_as B) e

  pub head-outside : {b : Bool} → b ≡ in_limits h → b ≡ false → None ≡ head_of B
  head-outside i q = said-as None (rw (sym i ∙ q))

  module _ {b : Bool} (i : b ≡ in_limits h) (within : b ≡ true) {n : ℕ} (end : n ≡ table_end h) where
    pub head-long : length B < n → None ≡ head_of B
    head-long q = said-as None (rw (sym i ∙ within, sym end, lt-leb n (length B) q))

    module _ (fits : n ≤ length B) {c : Bool} (right : c ≡ head_right (take n B) h) where
      pub head-wrong : c ≡ false → None ≡ head_of B
      head-wrong q = let z = rw end at right in said-as None (rw (sym i ∙ within, sym end, le-leb n (length B) fits, end, sym z ∙ q))

      pub head-here : c ≡ true → Some h ≡ head_of B
      head-here q = let z = rw end at right in said-as (Some h) (rw (sym i ∙ within, sym end, le-leb n (length B) fits, end, sym z ∙ q))

-- What a head that is read says of the buffer.
pub record TableHead (B : List ℤ) (h : Sections) : Type 0 where
  pub fits : table_end h ≤ length B
  pub read : HeadRead (take (table_end h) B) h

pub table-head : (B : List ℤ) (h : Sections) → head_of B ≡ Some h → TableHead B h
unfolding head_of
table-head B h e = go (sections_of B) (in_limits (sections_of B)) refl (leb (table_end (sections_of B)) (length B)) refl
    (head_right (take (table_end (sections_of B)) B) (sections_of B)) refl e
  where
    go : (g : Sections) (a : Bool) → in_limits g ≡ a → (b : Bool) → leb (table_end g) (length B) ≡ b → (c : Bool) → head_right (take (table_end g) B) g ≡ c
        → cond (a && (b && c)) (Some g) None ≡ Some h → TableHead B h
    go g true i true j true k q =
        let z : g ≡ h = cc in
        let r : TableHead B g = record { fits = leb-true (table_end g) (length B) j; read = head_read (take (table_end g) B) g k } in rw z at r
    go g true i true j false k q = let z : ◌≡◌ {A = ℕ} 0 1 = cc in absurd (omega arith)
    go g true i false j c k q = let z : ◌≡◌ {A = ℕ} 0 1 = cc in absurd (omega arith)
    go g false i b j c k q = let z : ◌≡◌ {A = ℕ} 0 1 = cc in absurd (omega arith)

-- ---- the table of a session is the one that the directory tells

module _ (B : List ℤ) (L : ℕ) (within : L ≤ length B) where
  taken_word : (i : ℕ) → i < L → word (take L B) i ≡ word B i
  unfolding word
  taken_word i p = rw (get_or-take L B i (pos 0) p)

  taken-sections : 6 ≤ L → (four_pairs (take L B) ≡ true → 8 ≤ L) → sections_of (take L B) ≡ sections_of B
  unfolding sections_of four_pairs
  taken-sections p q =
      rw (taken_word 0 (omega arith), taken_word 1 (omega arith), taken_word 3 (omega arith), taken_word 5 (omega arith))
      (go (four_pairs B) (λ e. taken_word 7 (omega (arith, q (rw (taken_word 0 (omega arith)) e)))))
    where
      go : (b : Bool) → (b ≡ true → word (take L B) 7 ≡ word B 7) → ◌≡◌ {A = Sections}
          (record {
            start = cond b 8 6;
            objects = plain (word B 1);
            variables = plain (word B 3) / 8;
            statements = plain (word B 5) / 7;
            rows = cond b (plain (word (take L B) 7) / 6) 0;
          })
          (record {
            start = cond b 8 6;
            objects = plain (word B 1);
            variables = plain (word B 3) / 8;
            statements = plain (word B 5) / 7;
            rows = cond b (plain (word B 7) / 6) 0;
          })
      go true e = rw (e refl)
      go false e = refl

  -- The table that passes causes 1 to 5 is the one that the buffer's directory tells.
  module _ {h : Sections} (form : form_of (take L B) ≡ Ok h) where
    pub kept-end : L ≡ table_end h
    kept-end = sym (length-take-le L B within) ∙ directory-end (take L B) h (tested (take L B) h form).directory

    start-right : h.start ≡ cond (four_pairs (take L B)) 8 6
    unfolding sections_of
    start-right = sym (ap (λ (g : Sections). g.start) (tested (take L B) h form).sections)

    start-four : four_pairs (take L B) ≡ true → 8 ≤ h.start
    start-four e = let z : h.start ≡ 8 = start-right ∙ ap (λ (b : Bool). cond b 8 6) e in omega arith

    pub kept-head : head_of B ≡ Some h
    unfolding head_of head_right
    kept-head =
        let t = tested (take L B) h form in
        let z = kept-end in
        let s : sections_of B ≡ h = sym
        (taken-sections (omega (arith, start-least h (directory-limits (take L B) h t.directory))) (λ e. omega (arith, start-four e))) ∙ t.sections in
        let d = rw z at t.directory in
        let o = rw z at t.objects in
        let f : table_end h ≤ length B = omega arith in
        rw (
          s,
          directory-limits (take L B) h t.directory,
          le-leb (table_end h) (length B) f,
          d,
          le-leb h.objects (lowest_object (take (table_end h) B) h) (ltb-false (lowest_object (take (table_end h) B) h) h.objects o),
        )

-- ---- where the walk begins

lowest-most : (f : ℕ → Bool) (n i : ℕ) → lowest_from f i n ≤ i + n
unfolding lowest_from
lowest-most f zero i = omega arith
lowest-most f (suc n) i = go (f i) (lowest-most f n (i + 1))
  where
    go : (b : Bool) → lowest_from f (i + 1) n ≤ i + 1 + n → cond b (lowest_from f (i + 1) n) i ≤ i + suc n
    go true p = omega arith
    go false p = omega arith

pub up-to-within : (S : List ℕ) (p : ℕ) → up_to (places S) p ≤ place_count S
unfolding up_to
up-to-within S p =
    omega (arith, lowest-most (λ j. leb (get_or (places S) j (place_of 0 new_state)).position p) (length (places S)) 0, places-long S)

pub before-none : (S : List ℕ) {n : ℕ} → n ≡ 0 → 0 ≡ (last_place (take n (places S))).position
unfolding last_place
before-none S e = rw e

pub before-some : (S : List ℕ) {n : ℕ} → (n ≡ 0 → ⊥) → n ≤ place_count S → position_at S (n - 1) ≡ (last_place (take n (places S))).position
unfolding last_place
before-some S {n} q p =
    let z : length (take n (places S)) ≡ n = length-take-le n (places S) (omega (arith, places-long S)) in
    let o = pos_of_ne-zero q in
    rw z (ap (λ (x : Place). x.position)
    (sym (get_or-take n (places S) (n - 1) (place_of 0 new_state) (omega arith) ∙ places-at S (n - 1) (place_of 0 new_state) (omega arith))))

-- The places at or before the edit; the last of them is where the way to the position, and the walk, begin.
abbrev pub remaining : List ℕ → ℕ → List Place
remaining S at = take (up_to (places S) at) (places S)

abbrev pub placed_from : List ℤ → Sections → List ℕ → ℕ → Edit → Bool
placed_from T h S at e = placed T h (last_place (remaining S at)).position at (removed_by e (span_of (statement_at T h at)))

pub record Prepares (T : List ℤ) (room : ℕ) (h : Sections) (S : List ℕ) (at : ℕ) (e : Edit) (X : List ℤ) (r : Prepared) : Type 0 where
  pub held : r.held ≡ up_to (places S) at
  pub plan : r.plan ≡ plan_of (placed_from T h S at e) T room h at e X

pub prepares : (T : List ℤ) (room : ℕ) (h : Sections) (S : List ℕ) (at : ℕ) (e : Edit) (X : List ℤ) {r : Prepared} {q : ℕ} → r.held ≡ up_to (places S) at
    → q ≡ (last_place (take r.held (places S))).position
    → r.plan ≡ plan_of (placed T h q at (removed_by e (span_of (statement_at T h at)))) T room h at e X → Prepares T room h S at e X r
prepares T room h S at e X k z p = record { held = k; plan = rw (z, k) at p }

-- ---- an edit that is made

abbrev pub walk_answer : ℕ → Rewalked → Answer
walk_answer n w = record { taken = true; length = n; verdict = w.verdict; walked = w.walked }

-- What the function that makes the edit says.
pub record MadeBy (B : List ℤ) (h : Sections) (at m k : ℕ) (X : List ℤ) (K S : List ℕ) (held : ℕ) (r : Answer) (B' : List ℤ) (S' : List ℕ) : Type 0 where
  pub walk : Rewalked
  pub answer : r ≡ walk_answer (table_end (edited_sections h m k)) walk
  pub buffer : B' ≡ edited (take (table_end h) B) h at m k X ++ drop (table_end (edited_sections h m k)) B
  pub dropped : List ℕ
  pub drops : Restored S (take held (places S)) dropped
  pub walks : Rewalks (edited (take (table_end h) B) h at m k X) (edited_sections h m k) K dropped walk S'

module _ (B : List ℤ) (h : Sections) (at m k : ℕ) (X : List ℤ) (fits : Fits h at m k) {B' : List ℤ}
    (written : B' ≡ edited B h at m k X ++ drop (table_end (edited_sections h m k)) B) where
  -- The edited table in the buffer.
  pub buffer-table : {n : ℕ} → n ≡ table_end (edited_sections h m k) → take n B' ≡ edited (take (table_end h) B) h at m k X
  buffer-table {n} z =
      rw (written, z)
      (take_at (edited B h at m k X) (drop (table_end (edited_sections h m k)) B) (table_end (edited_sections h m k)) (edited-long B h at m k X fits))
      ∙ sym (edited-take B (table_end h) h at m k X fits refl)

  pub room_after : table_end (edited_sections h m k) ≤ length B'
  room_after =
      omega (arith, ap length written, length-append (edited B h at m k X) (drop (table_end (edited_sections h m k)) B), edited-long B h at m k X fits)

  pub made_by : (K S : List ℕ) (held : ℕ) {S₁ S' : List ℕ} {g : Sections} {n : ℕ} {w : Rewalked} {r : Answer} → n ≡ table_end (edited_sections h m k)
      → g ≡ edited_sections h m k → Restored S (take held (places S)) S₁ → Rewalks (take n B') g K S₁ w S' → r ≡ walk_answer n w
      → MadeBy B h at m k X K S held r B' S'
  made_by K S held {S₁} {S'} {g} {n} {w} z y d walks e =
      let t = buffer-table z in
      record {
        walk = w;
        answer = e ∙ ap (λ (i : ℕ). walk_answer i w) z;
        buffer = written ∙ ap (λ (U : List ℤ). U ++ drop (table_end (edited_sections h m k)) B) (sym (edited-take B (table_end h) h at m k X fits refl));
        dropped = S₁;
        drops = d;
        walks = rw (t, y) at walks;
      }

pub edited-measured : (T : List ℤ) (h : Sections) (p m k : ℕ) (X : List ℤ) → Fits h p m k → Lengths T h
    → Measured (environment_of (edited T h p m k X) (edited_sections h m k))
edited-measured T h p m k X fits f =
    measured (edited T h p m k X) (edited_sections h m k) (λ o q. let z = object-stays T h p m k X fits o in rw z (f o q))

-- A plan to change fits the table and the buffer.
pub plan-sizes : (B : List ℤ) (h : Sections) (S : List ℕ) (at : ℕ) (e : Edit) (X : List ℤ) (m k : ℕ) → TableHead B h
    → plan_of (placed_from (take (table_end h) B) h S at e) (take (table_end h) B) (length B) h at e X ≡ Ok (splice m k)
    → Fits h at m k × (table_end (edited_sections h m k) ≤ length B)
plan-sizes B h S at e X m k t p =
    let T = take (table_end h) B in
    let q = planned (placed_from T h S at e) T (length B) h at e X m k p in
    let g = is-placed T h (last_place (remaining S at)).position at (removed_by e (span_of (statement_at T h at))) q.found in
    plan-fits (placed_from T h S at e) T (length B) h at e X m k g.some t.read.limits t.read.long p
