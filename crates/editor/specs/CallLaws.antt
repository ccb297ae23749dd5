-- The promises of the calls, from what their parts say.
use Rattle.std.specs.Prelude.{ℕ, ◌^◌, ◌<◌, ◌≤◌, ◌≡◌, refl, Bool, true, false, ℤ, take, drop, Err, None, Ok, Option, Result, Some}
use Rattle.std.proofs.Common.{sym, ◌∙◌, arith}
use Rattle.std.proofs.Math.Path.{ap}
use Rattle.std.proofs.lemmas.Bool.{false≢true}
use mathlib.Core.List.{List, [], ◌∷◌, ◌++◌}
use Rattle.std.proofs.Math.ListN.{length}
use Rattle.answers.specs.declared.refusals.Refusal.{Refusal}
use Rattle.answers.specs.declared.refusals.Refusal.TheVariants.{EditPosition}
use Rattle.words.specs.Sections.{table_end}
use Rattle.words.specs.SectionsLaws.{limits}
use Rattle.words.specs.declared.sections.Sections.{Sections}
use Rattle.statements.specs.Statements.{statement_at}
use Rattle.table.specs.Form.{form_of}
use Rattle.blocks.specs.Tree.{tree}
use Rattle.blocks.specs.Layout.{layout}
use Rattle.blocks.specs.LayoutLaws.{none-refused}
use Rattle.blocks.specs.Parts.{verdict}
use Rattle.rules.specs.ByChains.{Judged}
use Rattle.rules.specs.Small.{RefusalSmall}
use Rattle.checker.specs.VerdictLaws.{form-refused, form-checked, layout-refused}
use Rattle.edits.specs.TopLevel.{positions_of, span_of}
use Rattle.edits.specs.Edited.{edited_sections, edited}
use Rattle.edits.specs.EditedLaws.{limits-stay}
use Rattle.plans.specs.Plans.{removed_by, is_position, plan_of, splice}
use Rattle.plans.specs.PlanLaws.{is-placed, planned}
use Rattle.plans.specs.declared.Edit.{Edit}
use Rattle.plans.specs.declared.Splice.{Splice}
use Rattle.places.specs.Positions.{capacity, positions, Ascending, staying, last_of, stored, walked_from}
use Rattle.places.specs.Places.{Place, places, up_to, last_place}
use Rattle.places.specs.StoreLaws.{Restored}
use Rattle.places.specs.PositionLaws.{positions_in, positions-places, staying-places, ascending-staying, ascending-stored}
use Rattle.rewalks.specs.Walking.{capacity-same}
use Rattle.rewalks.specs.Rewalks.{Rewalks}
use Rattle.rewalks.specs.declared.Rewalked as rewalk
use Rattle.editor.specs.Kept.{Kept}
use Rattle.editor.specs.KeptLaws.{Rewalked, rechecked}
use Rattle.editor.specs.EditPlaces.{placed-position}
use Rattle.editor.specs.EditKept.{stay-before, walk_from, from-before, edit-ready}
use Rattle.editor.specs.SmallLaws.{within, plan-small, rewalked-small}
use Rattle.editor.specs.Editor.{Rechecked, Passing, Started, head_of, unmade_by, Unmade, Written, PlanSaid, EditSaid, KeptSaid, NumbersSmall, EditCall}
use Rattle.editor.specs.EditLaws.{TableHead, kept-end, kept-head, remaining, placed_from, Prepares, walk_answer, MadeBy, plan-sizes}
use Rattle.editor.specs.declared.Answer.{Answer}
use Rattle.editor.specs.declared.Prepared.{Prepared}

-- ---- after a walk

-- The walk from the store S₁, in which the positions P are kept, with room for as many places as S has.
pub walk-rechecked : (T : List ℤ) (h : Sections) (K S S₁ : List ℕ) (P : List ℕ) {w : rewalk.Rewalked} {n : ℕ} {Q : List ℕ} → Kept T h S₁ → positions S₁ ≡ P
    → capacity S₁ ≡ capacity S → Rewalks T h K S₁ w Q → Rechecked T h K (capacity S) P (last_of P) (walk_answer n w) Q
walk-rechecked T h K S S₁ P {w} {n} {Q} k p c walks =
    let r : Rewalked T h K S₁ w.verdict w.walked Q = rechecked T h K S₁ k walks in
    record {
      judged = r.judged;
      walked = rw (sym p) r.walked;
      positions = rw (sym p, sym c) r.positions;
      ascending = ascending-stored K (capacity S) w.verdict (positions_of (tree T h)) P (rw p at k.ascending);
      kept = r.kept;
    }

-- ---- the first call

no-layout : (xs : List Refusal) {l : Result (Unit {0}) Refusal} {x : Refusal} → l ≡ verdict xs → l ≡ Err x → xs ≡ [] → ⊥
unfolding verdict
no-layout xs e p z = let o = rw z at e in let i : ◌≡◌ {A = ℕ} 0 1 = cc in omega arith

same-sections : (T : List ℤ) (h g : Sections) → form_of T ≡ Ok h → Passing T g → h ≡ g
same-sections T h g f q = let z : Ok h ≡ Ok g = sym f ∙ q.form in cc

module _ (T : List ℤ) (K S : List ℕ) {r : Answer} where
  -- It does not pass, whatever refuses it.
  start-refused : {x : Refusal} → ((h : Sections) → Passing T h → ⊥) → Judged [] T [] (Err x) → r ≡ unmade_by (length T) x → Started T K S r S
  start-refused {x} n j e = rw e (record { words = refl; taken = λ h p. absurd (n h p); refused = λ p. (j, refl, refl, refl) })

  pub start-form : {f : Result Sections Refusal} {x : Refusal} → f ≡ form_of T → f ≡ Err x → r ≡ unmade_by (length T) x → Started T K S r S
  start-form {f} {x} e p =
      start-refused
      (λ h q. let z : Err x ≡ Ok h = sym p ∙ e ∙ q.form in let o : ◌≡◌ {A = ℕ} 0 1 = cc in absurd (omega arith))
      (form-refused T [] e p).0

  module _ {h : Sections} (f : form_of T ≡ Ok h) where
    pub start-layout : {l : Result (Unit {0}) Refusal} {x : Refusal} → l ≡ verdict (layout T h) → l ≡ Err x → r ≡ unmade_by (length T) x → Started T K S r S
    start-layout {l} {x} e p =
        start-refused (λ g q. no-layout (layout T h) e p (let z = same-sections T h g f q in rw z q.laid))
        (form-checked T [] (sym f) {c = Err x} refl refl (layout-refused [] T h [] e p)).0

    pub start-walked : {l : Result (Unit {0}) Refusal} {S₁ Q : List ℕ} {w : rewalk.Rewalked} → l ≡ verdict (layout T h) → l ≡ Ok tt
        → Restored S (take 0 (places S)) S₁ → Rewalks T h K S₁ w Q → r ≡ walk_answer (length T) w → Started T K S r Q
    unfolding last_of Ascending
    start-walked {l} {S₁} {Q} {w} a b d walks e =
        let z : layout T h ≡ [] = none-refused (layout T h) l a b in
        let o : places S₁ ≡ [] = d.holds in
        let p : positions S₁ ≡ [] = positions-places S₁ ∙ ap positions_in o in
        let k : Kept T h S₁ = record { form = f; laid = z; reached = rw o tt; ascending = rw p tt } in
        let c = walk-rechecked T h K S S₁ [] {n = length T} k p (capacity-same S S₁ d.long) walks in
        rw e (record {
          words = refl;
          taken = λ g q. let y = same-sections T h g f q in rw (sym y) (refl, c);
          refused = λ q. absurd (q h (record { form = f; laid = z }));
        })

-- ---- an edit

unmade-small : {n : ℕ} {x : Refusal} {r : Answer} → r ≡ unmade_by n x → RefusalSmall x → NumbersSmall r
unmade-small e s =
    rw e (record { verdict = (s.place-small, s.pointer-small); walked = omega arith; words = λ q. absurd (false≢true q) })

abbrev table_in : List ℤ → Sections → List ℤ
table_in B h = take (table_end h) B

-- The table and the sections of a session are those that were read.
same : (B : List ℤ) (S : List ℕ) {d : Option Sections} {h : Sections} → d ≡ head_of B → d ≡ Some h → (L : ℕ) (g : Sections) → L ≤ length B → Kept (take L B) g S
    → (h ≡ g) × (take L B ≡ table_in B h) × Kept (table_in B h) h S
same B S {d} {h} head i L g l k =
    let o : Some h ≡ Some g = sym i ∙ (head ∙ kept-head B L l k.form) in
    let z : h ≡ g = cc in
    let y : take L B ≡ table_in B h = ap (λ (n : ℕ). take n B) (kept-end B L l k.form ∙ ap table_end (sym z)) in
    (z, y, rw (y, sym z) at k)

-- The code's test of the position is the tree's.
there : (T : List ℤ) (h : Sections) (S : List ℕ) (at : ℕ) (e : Edit) → Kept T h S → placed_from T h S at e ≡ is_position e T h at
there T h S at e k = placed-position T h k.laid (walk_from T h S k at) at (from-before T h S k at) e

module _ (B : List ℤ) (at : ℕ) (e : Edit) (X : List ℤ) (K S : List ℕ) {r : Answer} where
  pub call-unread : {d : Option Sections} → d ≡ head_of B → d ≡ None → r ≡ unmade_by 0 (EditPosition at) → EditCall B at e X K S r B S
  call-unread {d} i j v = record {
    any = let z = sym i ∙ j in rw z (record { answer = v; buffer = refl; store = refl });
    kept = λ L h l k.
        let z : None ≡ Some h = sym j ∙ (i ∙ kept-head B L l k.form) in let o : ◌≡◌ {A = ℕ} 0 1 = cc in absurd (omega arith);
    small = λ l. unmade-small v (record { place-small = l; pointer-small = omega arith });
  }

  module _ {d : Option Sections} {h : Sections} (head : d ≡ head_of B) (i : d ≡ Some h) {u : Prepared}
      (prepares : Prepares (take (table_end h) B) (length B) h S at e X u) where
    -- From what is said of the plan by the code's test to the promise.
    call : {B' : List ℤ} {S' : List ℕ} → PlanSaid (plan_of (placed_from (table_in B h) h S at e) (table_in B h) (length B) h at e X) B h at X S r B' S'
        → (Kept (table_in B h) h S → KeptSaid (plan_of (placed_from (table_in B h) h S at e) (table_in B h) (length B) h at e X) B h at X K S r B' S')
        → (at < 2 ^ 32 → NumbersSmall r) → EditCall B at e X K S r B' S'
    call {B'} {S'} p q n = record {
      any = let z = sym head ∙ i in rw z (placed_from (table_in B h) h S at e, p);
      kept = λ L g l k.
          let s = same B S head i L g l k in
          let z = s.0 in
          let y = s.1 in
          rw (sym z, y) (rw (there (table_in B h) h S at e s.2) at (q s.2));
      small = n;
    }

    pub call-refused : {x : Refusal} → u.plan ≡ Err x → r ≡ unmade_by (table_end h) x → EditCall B at e X K S r B S
    call-refused {x} j v =
        let z : plan_of (placed_from (table_in B h) h S at e) (table_in B h) (length B) h at e X ≡ Err x = sym prepares.plan ∙ j in
        let o : Unmade B S (table_end h) x r B S = record { answer = v; buffer = refl; store = refl } in
        call (rw z o) (λ k. rw z o) (λ l. unmade-small v (plan-small (placed_from (table_in B h) h S at e) (table_in B h) (length B) h at e X x l z))

    pub call-made : {m k : ℕ} {B' : List ℤ} {S' : List ℕ} → TableHead B h → u.plan ≡ Ok (splice m k) → MadeBy B h at m k X K S u.held r B' S'
        → EditCall B at e X K S r B' S'
    call-made {m} {k} {B'} {S'} t j w =
        let z : plan_of (placed_from (table_in B h) h S at e) (table_in B h) (length B) h at e X ≡ Ok (splice m k) = sym prepares.plan ∙ j in
        let v = w.answer in
        let o : Written B h at m k X r B' = record { taken = ap (λ (a : Answer). a.taken) v; words = ap (λ (a : Answer). a.length) v; buffer = w.buffer } in
        call (rw z o) (λ q. rw z (o, checked q z)) (λ l. small l z)
      where
        stays : Restored S (remaining S at) w.dropped
        stays = let y = prepares.held in rw y at w.drops

        small : at < 2 ^ 32 → plan_of (placed_from (table_in B h) h S at e) (table_in B h) (length B) h at e X ≡ Ok (splice m k) → NumbersSmall r
        small l z =
            let f = (plan-sizes B h S at e X m k t z).0 in
            let g = limits (edited_sections h m k) (limits-stay h m k f.limits f.few) in
            let y = stays.holds in
            let p : (last_place (places w.dropped)).position ≤ at = rw y (stay-before (places S) at) in
            let n = rewalked-small (edited (table_in B h) h at m k X) (edited_sections h m k) g (last_place (places w.dropped)) (omega arith) w.walks in
            let v = w.answer in
            rw v (record { verdict = n.0; walked = n.1; words = λ q. within (edited_sections h m k) g })

        checked : Kept (table_in B h) h S → plan_of (placed_from (table_in B h) h S at e) (table_in B h) (length B) h at e X ≡ Ok (splice m k)
            → Rechecked (edited (table_in B h) h at m k X) (edited_sections h m k) K (capacity S) (staying at (positions S))
            (last_of (staying at (positions S))) r S'
        checked q z =
            let f = (plan-sizes B h S at e X m k t z).0 in
            let g = is-placed (table_in B h) h (last_place (remaining S at)).position at (removed_by e (span_of (statement_at (table_in B h) h at)))
            (planned (placed_from (table_in B h) h S at e) (table_in B h) (length B) h at e X m k z).found in
            let o = edit-ready (table_in B h) h S q at (placed_from (table_in B h) h S at e) (length B) e X f g z in
            let d = stays in
            let p : positions w.dropped ≡ staying at (positions S) =
            positions-places w.dropped ∙ (ap positions_in d.holds ∙ (staying-places (places S) at ∙ ap (staying at) (sym (positions-places S)))) in
            let y = d.holds in
            let k' : Kept (edited (table_in B h) h at m k X) (edited_sections h m k) w.dropped = record {
              form = o.form;
              laid = o.laid;
              reached = rw y o.reached;
              ascending = rw p (ascending-staying at (positions S) q.ascending);
            } in
            let x = w.answer in
            rw x (walk-rechecked (edited (table_in B h) h at m k X) (edited_sections h m k) K S w.dropped (staying at (positions S)) k' p
            (capacity-same S w.dropped d.long) w.walks)
