-- The places that a walk keeps, part by part.
use Rattle.std.specs.Prelude.{ℕ, ◌+◌, ◌<◌, ◌≤◌, ◌≡◌, Bool, true, false, ◌||◌, cond, eqb, ltb}
use Rattle.std.proofs.Math.Path.{refl, sym}
use Rattle.std.proofs.Common.{◌∙◌, ap, arith, eq-eqb, ltb-true, ltb-false}
use mathlib.Core.List.{List, [], ◌∷◌, ◌++◌}
use Rattle.std.proofs.Math.ListN.{length}
use Rattle.facts.specs.declared.FactSet.{FactSet}
use Rattle.answers.specs.declared.refusals.Refusal.{Refusal}
use Rattle.blocks.specs.Tree.{Block, nil, plain, branch, loop, bundle, call, unread}
use Rattle.blocks.specs.Layout.{also}
use Rattle.blocks.specs.Shape.{size, Numbered}
use Rattle.rules.specs.FactSets.{State}
use Rattle.rules.specs.Rules as walk_rules
use Rattle.rules.specs.Stored.{store, block_after, block_faults}
use Rattle.rules.specs.declared.Environment.{Environment}
use Rattle.edits.specs.Followed.{followed}
use Rattle.edits.specs.Cuts.{top_below}
use Rattle.edits.specs.TopLevel.{top_level, positions_of}
use Rattle.edits.specs.Edited.{is_empty}
use Rattle.places.specs.WalkFollowed.{after-followed, faults-followed}
use Rattle.places.specs.Places.{Place, is_next, kept_at, onward, kept_from}
use Rattle.edits.specs.TopLevel.{is_in}

-- What follows the first part is kept where the first part has no fault.
step : (F G : List Refusal) (P L M : List Place) (f : List Place → List Place) → L ≡ onward G (f M) M
    → onward F L P ≡ onward (also F G) (f (onward F M P)) (onward F M P)
unfolding also is_empty
step [] G P L M f e = e
step (x ∷ F) G P L M f e = refl

nil-onward : (K : List ℕ) (n : ℕ) (E : Environment) (u : Block) (w : State FactSet) (P : List Place)
    → kept_from K n E u w P ≡ onward (block_faults E [] [] nil w) (kept_from K n E u (block_after E [] nil w) P) P
unfolding walk_rules.block_faults walk_rules.block_after is_empty
nil-onward K n E u w P = refl

-- A top-level statement is not before the block.
pub top_from : (t : Block) (a p : ℕ) → Numbered t a → top_level t p ≡ true → a ≤ p
top_from t a p m e = go (ltb p a) refl
  where
    go : (b : Bool) → ltb p a ≡ b → a ≤ p
    go true q = let o : true ≡ false = sym e ∙ top_below t a p m (ltb-true p a q) in let z : ◌≡◌ {A = ℕ} 0 1 = cc in absurd (omega arith)
    go false q = ltb-false p a q

module _ (K : List ℕ) (n : ℕ) (E : Environment) where
  -- The faults and the state of a block by its first statement.
  module _ (t : Block) (r : Block) (a : ℕ) (numbered : Numbered t a) (w : State FactSet) where
    first-faults : block_faults E [] [] (followed t r) w ≡ also (block_faults E [] [] t w) (block_faults E [] [] r (block_after E [] t w))
    first-faults = faults-followed store E [] t r a numbered w

    first-after : block_after E [] (followed t r) w ≡ block_after E [] r (block_after E [] t w)
    first-after = after-followed store E [] t r a numbered w

  pub kept-followed : (t u : Block) (a : ℕ) → Numbered t a → (w : State FactSet) (P : List Place)
      → kept_from K n E (followed t u) w P
      ≡ onward (block_faults E [] [] t w) (kept_from K n E u (block_after E [] t w) (kept_from K n E t w P)) (kept_from K n E t w P)
  unfolding followed kept_from
  kept-followed nil u a m w P = nil-onward K n E u w P
  kept-followed (plain x s r) u a m w P =
      step (block_faults E [] [] (plain x s nil) w) (block_faults E [] [] r (block_after E [] (plain x s nil) w)) _ _ _
      (kept_from K n E u (block_after E [] r (block_after E [] (plain x s nil) w)))
      (kept-followed r u (x + 1) m.1 (block_after E [] (plain x s nil) w) (kept_at K n P x w))
      ∙ rw (sym (first-faults (plain x s nil) r x (refl, tt) w), sym (first-after (plain x s nil) r x (refl, tt) w))
  kept-followed (call x s r) u a m w P =
      step (block_faults E [] [] (call x s nil) w) (block_faults E [] [] r (block_after E [] (call x s nil) w)) _ _ _
      (kept_from K n E u (block_after E [] r (block_after E [] (call x s nil) w)))
      (kept-followed r u (x + 1) m.1 (block_after E [] (call x s nil) w) (kept_at K n P x w))
      ∙ rw (sym (first-faults (call x s nil) r x (refl, tt) w), sym (first-after (call x s nil) r x (refl, tt) w))
  kept-followed (branch x c t e r) u a m w P =
      step (block_faults E [] [] (branch x c t e nil) w) (block_faults E [] [] r (block_after E [] (branch x c t e nil) w)) _ _ _
      (kept_from K n E u (block_after E [] r (block_after E [] (branch x c t e nil) w)))
      (kept-followed r u (x + 1 + size t + size e) m.3 (block_after E [] (branch x c t e nil) w) (kept_at K n P x w))
      ∙ rw (sym (first-faults (branch x c t e nil) r x (refl, m.1, m.2, tt) w), sym (first-after (branch x c t e nil) r x (refl, m.1, m.2, tt) w))
  kept-followed (loop x c t r) u a m w P =
      step (block_faults E [] [] (loop x c t nil) w) (block_faults E [] [] r (block_after E [] (loop x c t nil) w)) _ _ _
      (kept_from K n E u (block_after E [] r (block_after E [] (loop x c t nil) w)))
      (kept-followed r u (x + 1 + size t) m.2 (block_after E [] (loop x c t nil) w) (kept_at K n P x w))
      ∙ rw (sym (first-faults (loop x c t nil) r x (refl, m.1, tt) w), sym (first-after (loop x c t nil) r x (refl, m.1, tt) w))
  kept-followed (bundle x ss r) u a m w P =
      step (block_faults E [] [] (bundle x ss nil) w) (block_faults E [] [] r (block_after E [] (bundle x ss nil) w)) _ _ _
      (kept_from K n E u (block_after E [] r (block_after E [] (bundle x ss nil) w)))
      (kept-followed r u (x + 1 + length ss) m.1 (block_after E [] (bundle x ss nil) w) (kept_at K n P x w))
      ∙ rw (sym (first-faults (bundle x ss nil) r x (refl, tt) w), sym (first-after (bundle x ss nil) r x (refl, tt) w))
  kept-followed (unread x) u a m w P = absurd m

  -- ---- a block of which no top-level statement is named

  same : (F : List Refusal) (L P : List Place) → L ≡ P → onward F L P ≡ P
  unfolding is_empty
  same [] L P e = e
  same (x ∷ F) L P e = refl

  unnamed : (P : List Place) (a : ℕ) (w : State FactSet) → is_in K a ≡ false → kept_at K n P a w ≡ P
  unfolding kept_at
  unnamed P a w e = rw e

  -- None of these top-level statements is named.
  abbrev pub Silent : Block → Type 0
  Silent t = (x : ℕ) → top_level t x ≡ true → is_in K x ≡ false

  or-second : (x y : Bool) → y ≡ true → (x || y) ≡ true
  or-second true y e = refl
  or-second false y e = e

  or-first : (x y : Bool) → x ≡ true → (x || y) ≡ true
  or-first true y e = refl
  or-first false y e = cc

  pub kept-silent : (t : Block) (w : State FactSet) (P : List Place) → Silent t → kept_from K n E t w P ≡ P
  unfolding kept_from top_level positions_of is_in
  kept-silent nil w P q = refl
  kept-silent (plain x s r) w P q =
      rw (unnamed P x w (q x (or-first (eqb x x) _ (eq-eqb x x refl))))
      (same (block_faults E [] [] (plain x s nil) w) _ P (kept-silent r (block_after E [] (plain x s nil) w) P (λ y e. q y (or-second (eqb x y) _ e))))
  kept-silent (call x s r) w P q =
      rw (unnamed P x w (q x (or-first (eqb x x) _ (eq-eqb x x refl))))
      (same (block_faults E [] [] (call x s nil) w) _ P (kept-silent r (block_after E [] (call x s nil) w) P (λ y e. q y (or-second (eqb x y) _ e))))
  kept-silent (branch x c t o r) w P q =
      rw (unnamed P x w (q x (or-first (eqb x x) _ (eq-eqb x x refl))))
      (same (block_faults E [] [] (branch x c t o nil) w) _ P
      (kept-silent r (block_after E [] (branch x c t o nil) w) P (λ y e. q y (or-second (eqb x y) _ e))))
  kept-silent (loop x c t r) w P q =
      rw (unnamed P x w (q x (or-first (eqb x x) _ (eq-eqb x x refl))))
      (same (block_faults E [] [] (loop x c t nil) w) _ P (kept-silent r (block_after E [] (loop x c t nil) w) P (λ y e. q y (or-second (eqb x y) _ e))))
  kept-silent (bundle x ss r) w P q =
      rw (unnamed P x w (q x (or-first (eqb x x) _ (eq-eqb x x refl))))
      (same (block_faults E [] [] (bundle x ss nil) w) _ P (kept-silent r (block_after E [] (bundle x ss nil) w) P (λ y e. q y (or-second (eqb x y) _ e))))
  kept-silent (unread x) w P q = refl

  -- Only the first statement may be named.
  abbrev pub SilentBehind : ℕ → Block → Type 0
  SilentBehind a t = (x : ℕ) → a < x → top_level t x ≡ true → is_in K x ≡ false

  pub kept-front : (t : Block) (a : ℕ) → Numbered t a → 0 < size t → (w : State FactSet) (P : List Place) → SilentBehind a t
      → kept_from K n E t w P ≡ kept_at K n P a w
  unfolding kept_from top_level positions_of is_in size
  kept-front nil a m q w P f = absurd (omega arith)
  kept-front (plain x s r) a m q w P f =
      let z = m.0 in
      rw (sym z) (same (block_faults E [] [] (plain x s nil) w) _ _ (kept-silent r (block_after E [] (plain x s nil) w) (kept_at K n P x w)
      (λ y e. f y (omega (arith, top_from r (x + 1) y m.1 e)) (or-second (eqb x y) _ e))))
  kept-front (call x s r) a m q w P f =
      let z = m.0 in
      rw (sym z) (same (block_faults E [] [] (call x s nil) w) _ _ (kept-silent r (block_after E [] (call x s nil) w) (kept_at K n P x w)
      (λ y e. f y (omega (arith, top_from r (x + 1) y m.1 e)) (or-second (eqb x y) _ e))))
  kept-front (branch x c t o r) a m q w P f =
      let z = m.0 in
      rw (sym z) (same (block_faults E [] [] (branch x c t o nil) w) _ _ (kept-silent r (block_after E [] (branch x c t o nil) w) (kept_at K n P x w)
      (λ y e. f y (omega (arith, top_from r (x + 1 + size t + size o) y m.3 e)) (or-second (eqb x y) _ e))))
  kept-front (loop x c t r) a m q w P f =
      let z = m.0 in
      rw (sym z) (same (block_faults E [] [] (loop x c t nil) w) _ _ (kept-silent r (block_after E [] (loop x c t nil) w) (kept_at K n P x w)
      (λ y e. f y (omega (arith, top_from r (x + 1 + size t) y m.2 e)) (or-second (eqb x y) _ e))))
  kept-front (bundle x ss r) a m q w P f =
      let z = m.0 in
      rw (sym z) (same (block_faults E [] [] (bundle x ss nil) w) _ _ (kept-silent r (block_after E [] (bundle x ss nil) w) (kept_at K n P x w)
      (λ y e. f y (omega (arith, top_from r (x + 1 + length ss) y m.1 e)) (or-second (eqb x y) _ e))))
  kept-front (unread x) a m q w P f = absurd m
