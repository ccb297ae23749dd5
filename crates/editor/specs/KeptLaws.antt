-- Laws of what calls leave: the places that stay, and those that a walk from the last of them keeps.
use Rattle.std.specs.Prelude.{ℕ, zero, suc, ◌+◌, ◌-◌, ◌<◌, ◌≤◌, ◌≡◌, Bool, ◌&&◌, cond, ℤ, length, get_or, take, Ok, Result}
use Rattle.std.proofs.Math.Path.{refl, sym}
use Rattle.std.proofs.Common.{◌∙◌, ap, ap₂, arith, le-ltb}
use Rattle.std.proofs.Math.Bool.{true, false}
use mathlib.Core.List.{List, [], ◌∷◌, ◌++◌}
use Rattle.std.proofs.Math.Dec.{ltb}
use Rattle.facts.specs.declared.FactSet.{FactSet}
use Rattle.answers.specs.declared.refusals.Refusal.{Refusal}
use Rattle.words.specs.declared.sections.Sections.{Sections}
use Rattle.table.specs.Form.{form_of}
use Rattle.blocks.specs.Tree.{Block, nil, plain, branch, loop, bundle, call, unread, tree}
use Rattle.blocks.specs.Layout.{also, layout}
use Rattle.blocks.specs.Shape.{size, Laid}
use Rattle.blocks.specs.ShapeLaws.{table-laid}
use Rattle.rules.specs.FactSets.{State}
use Rattle.rules.specs.Stored.{new_state, block_after, block_faults}
use Rattle.rules.specs.Verdict.{environment_of, verdict_of}
use Rattle.rules.specs.ByChains.{Judged}
use Rattle.rules.specs.declared.Environment.{Environment}
use Rattle.edits.specs.TopLevel.{is_in, positions_of}
use Rattle.edits.specs.Followed.{followed, laid-followed, laid-clear}
use Rattle.edits.specs.Cuts.{Cut, first, rest, first-laid, rest-laid}
use Rattle.edits.specs.Edited.{is_empty}
use Rattle.edits.specs.EditedTree.{laid-tree}
use Rattle.places.specs.Reached.{Reached, reached-start, reached-more, reached-rest, reached-judged}
use Rattle.places.specs.Positions.{capacity, positions, Ascending, last_of, stored, walked_from}
use Rattle.places.specs.Places.{Place, place_of, places, is_next, kept_at, onward, kept_from, last_place}
use Rattle.places.specs.StoreLaws.{Restored}
use Rattle.places.specs.PositionLaws.{positions_in, positions-places, last-position, kept-positions, ascending-stored, stored-from}
use Rattle.rewalks.specs.Walking.{rest_of}
use Rattle.rewalks.specs.Rewalks.{layout_from, Rewalks}
use Rattle.rewalks.specs.declared.Rewalked as rewalk
use Rattle.editor.specs.Kept.{AllReached, Kept}

module _ (T : List ℤ) (h : Sections) where
  pub all_append : (P Q : List Place) → AllReached T h P → AllReached T h Q → AllReached T h (P ++ Q)
  all_append [] Q p q = q
  all_append (x ∷ P) Q p q = (p.0, all_append P Q p.1 q)

  pub all_take : (n : ℕ) (P : List Place) → AllReached T h P → AllReached T h (take n P)
  all_take zero P p = tt
  all_take (suc n) [] p = tt
  all_take (suc n) (x ∷ P) p = (p.0, all_take n P p.1)

  all-at : (P : List Place) (j : ℕ) (d : Place) → AllReached T h P → Reached T h d.position d.state
      → Reached T h (get_or P j d).position (get_or P j d).state
  all-at [] j d p q = q
  all-at (x ∷ P) zero d p q = p.0
  all-at (x ∷ P) (suc j) d p q = all-at P j d p.1 q

  pub last-reached : {t : Block} (P : List Place) → Laid T h 0 0 h.statements t → AllReached T h P
      → Reached T h (last_place P).position (last_place P).state
  unfolding last_place
  last-reached P l p = all-at P (length P - 1) (place_of 0 new_state) p (reached-start l)

  pub reached-laid : {q : ℕ} {w : State FactSet} → Reached T h q w → Laid T h 0 q h.statements (rest_of T h q)
  reached-laid {q} p = let e = reached-rest p h.statements (omega arith) in rw e p.cut.back-laid

  pub rest-judged : {q : ℕ} {w : State FactSet} {v : Result (Unit {0}) Refusal} → Reached T h q w → form_of T ≡ Ok h
      → v ≡ verdict_of (block_faults (environment_of T h) [] [] (rest_of T h q) w) → Judged [] T [] v
  rest-judged {q} {w} p f e =
      reached-judged p f (e ∙ ap (λ (b : Block). verdict_of (block_faults (environment_of T h) [] [] b w)) (reached-rest p h.statements (omega arith)))

  -- ---- the places that the walk keeps

  module _ (K : List ℕ) (n : ℕ) where
    abbrev E : Environment
    E = environment_of T h

    all-kept : {a : ℕ} {w : State FactSet} (P : List Place) → Reached T h a w → AllReached T h P → AllReached T h (kept_at K n P a w)
    unfolding kept_at
    all-kept {a} {w} P r p = go (is_in K a && (is_next P a && ltb (length P) n))
      where
        go : (b : Bool) → AllReached T h (cond b (P ++ (place_of a w ∷ [])) P)
        go true = all_append P (place_of a w ∷ []) p (r, tt)
        go false = p

    all-onward : (F : List Refusal) (P Q : List Place) → (F ≡ [] → AllReached T h P) → AllReached T h Q → AllReached T h (onward F P Q)
    unfolding is_empty
    all-onward [] P Q f q = f refl
    all-onward (x ∷ F) P Q f q = q

    -- The place behind the first statement of a block.
    behind-first : {a : ℕ} {w : State FactSet} (t : Block) → Laid T h 0 a h.statements t → Reached T h a w → block_faults E [] [] (first t) w ≡ []
        → Reached T h (a + size (first t)) (block_after E [] (first t) w)
    behind-first t l r e =
        let c : Cut T h 0 _ (_ + size (first t)) h.statements =
        record { front = first t; back = rest t; front-laid = first-laid t l; back-laid = rest-laid t l } in
        reached-more r c e

    pub kept-reached : {a : ℕ} {w : State FactSet} (t : Block) (P : List Place) → Laid T h 0 a h.statements t → Reached T h a w → AllReached T h P
        → AllReached T h (kept_from K n E t w P)
    unfolding kept_from first rest
    kept-reached nil P l r p = p
    kept-reached {a} {w} (plain x s o) P l r p =
        let y = sym l.numbered.0 in
        let r' = rw y at r in
        let l' = rw y at l in
        let q = all-kept P r' p in
        all-onward (block_faults E [] [] (plain x s nil) w) _ _
        (λ e. kept-reached {a = x + size (plain x s nil)} o (kept_at K n P x w) (rest-laid (plain x s o) l') (behind-first (plain x s o) l' r' e) q) q
    kept-reached {a} {w} (call x s o) P l r p =
        let y = sym l.numbered.0 in
        let r' = rw y at r in
        let l' = rw y at l in
        let q = all-kept P r' p in
        all-onward (block_faults E [] [] (call x s nil) w) _ _
        (λ e. kept-reached {a = x + size (call x s nil)} o (kept_at K n P x w) (rest-laid (call x s o) l') (behind-first (call x s o) l' r' e) q) q
    kept-reached {a} {w} (branch x c t u o) P l r p =
        let y = sym l.numbered.0 in
        let r' = rw y at r in
        let l' = rw y at l in
        let q = all-kept P r' p in
        all-onward (block_faults E [] [] (branch x c t u nil) w) _ _
        (λ e. kept-reached {a = x + size (branch x c t u nil)} o (kept_at K n P x w) (rest-laid (branch x c t u o) l')
        (behind-first (branch x c t u o) l' r' e) q) q
    kept-reached {a} {w} (loop x c t o) P l r p =
        let y = sym l.numbered.0 in
        let r' = rw y at r in
        let l' = rw y at l in
        let q = all-kept P r' p in
        all-onward (block_faults E [] [] (loop x c t nil) w) _ _
        (λ e. kept-reached {a = x + size (loop x c t nil)} o (kept_at K n P x w) (rest-laid (loop x c t o) l') (behind-first (loop x c t o) l' r' e) q) q
    kept-reached {a} {w} (bundle x ss o) P l r p =
        let y = sym l.numbered.0 in
        let r' = rw y at r in
        let l' = rw y at l in
        let q = all-kept P r' p in
        all-onward (block_faults E [] [] (bundle x ss nil) w) _ _
        (λ e. kept-reached {a = x + size (bundle x ss nil)} o (kept_at K n P x w) (rest-laid (bundle x ss o) l') (behind-first (bundle x ss o) l' r' e) q) q
    kept-reached (unread x) P l r p = absurd l.numbered

-- ---- the walk from the last place

-- From a place that a walk from nothing comes to, the statements are laid out.
from-laid : (T : List ℤ) (h : Sections) (q : ℕ) → Laid T h 0 q h.statements (rest_of T h q) → layout_from T h q ≡ []
unfolding layout_from
from-laid T h q l = rw (le-ltb h.statements q (omega (arith, l.ends))) (laid-clear l h.statements (omega arith))

-- The verdict from a store that calls have left, and what the walk leaves.
pub record Rewalked (T : List ℤ) (h : Sections) (K S : List ℕ) (v : Result (Unit {0}) Refusal) (n : ℕ) (Q : List ℕ) : Type 0 where
  pub judged : Judged [] T [] v
  pub walked : n ≡ walked_from T h (last_of (positions S)) v
  pub positions : positions Q ≡ stored K (capacity S) v (positions_of (tree T h)) (positions S)
  pub kept : Kept T h Q

pub rechecked : (T : List ℤ) (h : Sections) (K S : List ℕ) {r : rewalk.Rewalked} {Q : List ℕ} → Kept T h S → Rewalks T h K S r Q
    → Rewalked T h K S r.verdict r.walked Q
unfolding also is_empty
rechecked T h K S {r} {Q} k w =
    let p = last-reached T h (places S) (table-laid T h k.laid) k.reached in
    let o = reached-laid T h p in
    let l = from-laid T h (last_place (places S)).position o in
    let v : r.verdict ≡ verdict_of (block_faults (environment_of T h) [] [] (rest_of T h (last_place (places S)).position) (last_place (places S)).state) =
    rw l at w.verdict in
    let n : r.walked ≡ walked_from T h (last_place (places S)).position r.verdict = rw l at w.walked in
    let z : places Q ≡ kept_from K (capacity S) (environment_of T h) (rest_of T h (last_place (places S)).position) (last_place (places S)).state (places S) =
    rw l at w.left.holds in
    let q : (last_place (places S)).position ≡ last_of (positions S) = last-position (places S) ∙ ap last_of (sym (positions-places S)) in
    let s : positions Q ≡ stored K (capacity S) r.verdict (positions_of (tree T h)) (positions S) =
    positions-places Q ∙ (ap positions_in z ∙ (kept-positions K (capacity S) (environment_of T h) (rest_of T h (last_place (places S)).position)
    (last_place (places S)).position o.numbered (last_place (places S)).state (places S) v
    ∙ (ap₂ (λ (A : List ℕ) (P : List ℕ). stored K (capacity S) r.verdict A P) (ap positions_of (reached-rest p h.statements (omega arith)))
    (sym (positions-places S))
    ∙ (sym (stored-from K (capacity S) r.verdict p.cut.front p.cut.back (positions S) p.cut.front-laid.numbered
    (omega (arith, p.cut.front-laid.ends, q)))
    ∙ ap (λ (b : Block). stored K (capacity S) r.verdict (positions_of b) (positions S))
    (sym (laid-tree (laid-followed p.cut.front-laid p.cut.back-laid))))))) in
    record {
      judged = rest-judged T h p k.form v;
      walked = n ∙ ap (λ (a : ℕ). walked_from T h a r.verdict) q;
      positions = s;
      kept = record {
        form = k.form;
        laid = k.laid;
        reached = rw z (kept-reached T h K (capacity S) (rest_of T h (last_place (places S)).position) (places S) o p k.reached);
        ascending = rw s (ascending-stored K (capacity S) r.verdict (positions_of (tree T h)) (positions S) k.ascending);
      };
    }
