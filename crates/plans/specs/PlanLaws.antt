-- Laws of plans: what the code tests in turn, and what a plan to change says.
use Rattle.edits.specs.declared.TextFault.TheVariants.{Record, Layout}
use Rattle.std.specs.Prelude.{ℕ, ◌+◌, ◌-◌, ◌*◌, ◌/◌, ◌<◌, ◌≤◌, ◌≡◌, refl, Bool, true, false, ◌&&◌, cond, List, ℤ, length, eqb, Ok, Err, Result}
use Rattle.std.proofs.Math.Path.{sym}
use Rattle.std.proofs.Common.{◌∙◌, ap, arith}
use borrow.Author.Tests.{eqb-true, eq-eqb, ne_eqb, leb-true, le-leb, lt-leb}
use Rattle.std.proofs.Math.Dec.{leb}
use Rattle.answers.specs.declared.refusals.Refusal.{Refusal}
use Rattle.answers.specs.declared.refusals.Refusal.TheVariants.{EditPosition}
use Rattle.words.specs.Sections.{in_limits, table_end}
use Rattle.words.specs.SectionsLaws.{both, limits}
use Rattle.words.specs.declared.sections.Sections.{Sections}
use Rattle.statements.specs.Statements.{statement_at}
use Rattle.edits.specs.TopLevel.{span_of}
use Rattle.edits.specs.Cuts.{landing}
use Rattle.edits.specs.Edited.{edited_sections, text_sections, text_table, text_of}
use Rattle.edits.specs.EditedLaws.{Fits}
use Rattle.edits.specs.declared.TextFault.{TextFault}
use Rattle.plans.specs.Plans.{removed_by, words_by, text_plan, kind_plan, plan_of, splice}
use Rattle.plans.specs.declared.Edit.{Edit}
use Rattle.plans.specs.declared.Edit.TheVariants.{Insert, Replace, Remove, Unknown}
use Rattle.plans.specs.declared.Splice.{Splice}

-- The way from the statement `from` to the next lands on `at`, and m statements from there on end before the table's end: what the code tests in place of
-- asking the tree (`placed-top` in the editor's laws: the same, where `from` is a top-level statement at or before it).
unfoldable pub placed : List ℤ → Sections → ℕ → ℕ → ℕ → Bool
placed T h from at m = leb at h.statements && (eqb (landing at T h from at) at && leb m (h.statements - at))

module _ (T : List ℤ) (h : Sections) (from at m : ℕ) where
  pub placed_past : h.statements < at → false ≡ placed T h from at m
  unfolding placed
  placed_past p = rw (lt-leb at h.statements p)

  module _ (within : at ≤ h.statements) {a : ℕ} (way : a ≡ landing at T h from at) where
    pub placed_off : (a ≡ at → ⊥) → false ≡ placed T h from at m
    unfolding placed
    placed_off p = rw (le-leb at h.statements within, ne_eqb (landing at T h from at) at (λ z. p (way ∙ z)))

    pub placed_on : a ≡ at → leb m (h.statements - at) ≡ placed T h from at m
    unfolding placed
    placed_on p = rw (le-leb at h.statements within, eq-eqb (landing at T h from at) at (sym way ∙ p))

  -- What it says.
  pub record Placed : Type 0 where
    pub within : at ≤ h.statements
    pub lands : landing at T h from at ≡ at
    pub some : at + m ≤ h.statements

  pub is-placed : placed T h from at m ≡ true → Placed
  unfolding placed
  is-placed e =
      let p = both (leb at h.statements) (eqb (landing at T h from at) at && leb m (h.statements - at)) e in
      let q = both (eqb (landing at T h from at) at) (leb m (h.statements - at)) p.1 in
      let w = leb-true at h.statements p.0 in
      record { within = w; lands = eqb-true (landing at T h from at) at q.0; some = omega (arith, leb-true m (h.statements - at) q.1) }

pub placed_same : (T : List ℤ) (h : Sections) (from at m n : ℕ) {b x : Bool} → b ≡ placed T h from at m → m ≡ n → b ≡ x → placed T h from at n ≡ x
placed_same T h from at m n e z p = rw (sym z) (sym e ∙ p)

pub placed_end : (T : List ℤ) (h : Sections) (from at m : ℕ) {b : Bool} → b ≡ placed T h from at m → b ≡ true → at + m ≤ h.statements
placed_end T h from at m e p = (is-placed T h from at m (sym e ∙ p)).some

-- ---- the plan, test by test

module _ (there : Bool) (T : List ℤ) (room : ℕ) (h : Sections) (at : ℕ) (e : Edit) (X : List ℤ) where
  pub plan-nowhere : there ≡ false → Err (EditPosition at) ≡ plan_of there T room h at e X
  unfolding plan_of
  plan-nowhere p = rw p

  module _ (yes : there ≡ true) {m u : ℕ} (gone : m ≡ removed_by e (span_of (statement_at T h at))) (come : u ≡ words_by e (length X)) where
    pub plan-many : 7168 < 7 * (h.statements - m) + u → Err (EditPosition at) ≡ plan_of there T room h at e X
    unfolding plan_of
    plan-many p = rw (yes, sym gone, sym come, lt-leb (7 * (h.statements - m) + u) 7168 p)

    module _ (few : 7 * (h.statements - m) + u ≤ 7168) where
      pub plan-large : room < length T - 7 * m + u → Err (EditPosition at) ≡ plan_of there T room h at e X
      unfolding plan_of
      plan-large p =
          rw (yes, sym gone, sym come, le-leb (7 * (h.statements - m) + u) 7168 few, lt-leb (length T - 7 * m + u) room p)

      pub plan-kind : length T - 7 * m + u ≤ room
          → kind_plan at e (text_of (text_table T h X) (text_sections h X) (length X)) m (length X / 7) ≡ plan_of there T room h at e X
      unfolding plan_of
      plan-kind p =
          rw (yes, sym gone, sym come, le-leb (7 * (h.statements - m) + u) 7168 few, le-leb (length T - 7 * m + u) room p)

-- ---- what a plan to change says

pub record Planned (there : Bool) (T : List ℤ) (room : ℕ) (h : Sections) (at : ℕ) (e : Edit) (X : List ℤ) (m k : ℕ) : Type 0 where
  pub found : there ≡ true
  pub few : 7 * (h.statements - removed_by e (span_of (statement_at T h at))) + words_by e (length X) ≤ 7168
  pub fits : length T - 7 * removed_by e (span_of (statement_at T h at)) + words_by e (length X) ≤ room
  pub kind : kind_plan at e (text_of (text_table T h X) (text_sections h X) (length X)) (removed_by e (span_of (statement_at T h at))) (length X / 7)
      ≡ Ok (splice m k)

never : {r : Refusal} {m k : ℕ} {A : Type 0} → Err r ≡ Ok (splice m k) → A
never e = let z : ◌≡◌ {A = ℕ} 0 1 = cc in absurd (omega arith)

pub same-splice : {a b m k : ℕ} → ◌≡◌ {A = Result Splice Refusal} (Ok (splice a b)) (Ok (splice m k)) → (a ≡ m) × (b ≡ k)
same-splice {a} {b} {m} {k} e =
    let r : splice a b ≡ splice m k = cc in (ap (λ (p : Splice). p.removed) r, ap (λ (p : Splice). p.added) r)

pub planned : (there : Bool) (T : List ℤ) (room : ℕ) (h : Sections) (at : ℕ) (e : Edit) (X : List ℤ) (m k : ℕ) → plan_of there T room h at e X ≡ Ok (splice m k)
    → Planned there T room h at e X m k
unfolding plan_of
planned there T room h at e X m k p =
    go there refl (leb (7 * (h.statements - removed_by e (span_of (statement_at T h at))) + words_by e (length X)) 7168) refl
    (leb (length T - 7 * removed_by e (span_of (statement_at T h at)) + words_by e (length X)) room) refl p
  where
    go : (a : Bool) → there ≡ a → (b : Bool) → leb (7 * (h.statements - removed_by e (span_of (statement_at T h at))) + words_by e (length X)) 7168 ≡ b
        → (c : Bool) → leb (length T - 7 * removed_by e (span_of (statement_at T h at)) + words_by e (length X)) room ≡ c
        → cond (a && (b && c))
        (kind_plan at e (text_of (text_table T h X) (text_sections h X) (length X)) (removed_by e (span_of (statement_at T h at))) (length X / 7))
        (Err (EditPosition at)) ≡ Ok (splice m k)
        → Planned there T room h at e X m k
    go true y true f true o q = record { found = y; few = leb-true _ _ f; fits = leb-true _ _ o; kind = q }
    go true y true f false o q = never q
    go true y false f c o q = never q
    go false y b f c o q = never q

pub right-only : (at : ℕ) (t : Result (Unit {0}) TextFault) (m k a b : ℕ) → text_plan at t m k ≡ Ok (splice a b) → (t ≡ Ok tt) × (m ≡ a) × (k ≡ b)
right-only at (Ok _) m k a b e = let s = same-splice e in (refl, s.0, s.1)
right-only at (Err Record) m k a b e = never e
right-only at (Err Layout) m k a b e = never e

-- A plan to change fits the table and the buffer.
module _ (there : Bool) (T : List ℤ) (room : ℕ) (h : Sections) (at : ℕ) where
  pub plan-fits : (e : Edit) (X : List ℤ) (m k : ℕ) → at + removed_by e (span_of (statement_at T h at)) ≤ h.statements → in_limits h ≡ true → length T
      ≡ table_end h
      → plan_of there T room h at e X ≡ Ok (splice m k) → Fits h at m k × (table_end (edited_sections h m k) ≤ room)
  plan-fits Insert X m k some v z p =
      let q = planned there T room h at Insert X m k p in
      let t = right-only at (text_of (text_table T h X) (text_sections h X) (length X)) 0 (length X / 7) m k q.kind in
      let i = t.1 in
      let j = t.2 in
      let s = limits h v in
      (record { limits = v; sizes = s; within = omega arith; few = omega (arith, q.few) }, omega (arith, q.fits))
  plan-fits Replace X m k some v z p =
      let q = planned there T room h at Replace X m k p in
      let t = right-only at (text_of (text_table T h X) (text_sections h X) (length X)) (span_of (statement_at T h at)) (length X / 7) m k q.kind in
      let i = t.1 in
      let j = t.2 in
      let s = limits h v in
      (record { limits = v; sizes = s; within = omega arith; few = omega (arith, q.few) }, omega (arith, q.fits))
  plan-fits Remove X m k some v z p =
      let q = planned there T room h at Remove X m k p in
      let o = same-splice q.kind in
      let i = o.0 in
      let j = o.1 in
      let s = limits h v in
      (record { limits = v; sizes = s; within = omega arith; few = omega (arith, q.few) }, omega (arith, q.fits))
  plan-fits Unknown X m k some v z p = never (planned there T room h at Unknown X m k p).kind

-- What goes, unless the edit inserts.
pub spanned : (e : Edit) {r s : ℕ} → (e ≡ Insert → ⊥) → r ≡ s → r ≡ removed_by e s
spanned Insert n p = absurd (n refl)
spanned Replace n p = p
spanned Remove n p = p
spanned Unknown n p = p

-- ---- by the kind of edit

module _ {e : Edit} where
  pub insert-plan : e ≡ Insert → (at : ℕ) (t : Result (Unit {0}) TextFault) (m k : ℕ) → text_plan at t m k ≡ kind_plan at e t m k
  insert-plan q at t m k = rw q

  pub replace-plan : e ≡ Replace → (at : ℕ) (t : Result (Unit {0}) TextFault) (m k : ℕ) → text_plan at t m k ≡ kind_plan at e t m k
  replace-plan q at t m k = rw q

  pub remove-plan : e ≡ Remove → (at : ℕ) (t : Result (Unit {0}) TextFault) (m k : ℕ) → Ok (splice m 0) ≡ kind_plan at e t m k
  remove-plan q at t m k = rw q

  pub unknown-plan : e ≡ Unknown → (at : ℕ) (t : Result (Unit {0}) TextFault) (m k : ℕ) → Err (EditPosition at) ≡ kind_plan at e t m k
  unknown-plan q at t m k = rw q

  pub insert-words : {u n : ℕ} → e ≡ Insert → u ≡ words_by e n → u ≡ n
  insert-words q p = rw q at p

  pub replace-words : {u n : ℕ} → e ≡ Replace → u ≡ words_by e n → u ≡ n
  replace-words q p = rw q at p
