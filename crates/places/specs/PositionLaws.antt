-- The positions of the places that a store holds, that an edit leaves, and that a walk keeps.
use Rattle.std.specs.Prelude.{ℕ, zero, suc, ◌+◌, ◌-◌, ◌<◌, ◌≤◌, ◌≡◌, Bool, ◌&&◌, ◌||◌, get_or, take, eqb, leb, Err, Result}
use Rattle.std.proofs.Math.Path.{refl, sym, ap, subst}
use Rattle.std.proofs.Common.{◌∙◌, ap₂, arith, add-one, eq-eqb, ne_eqb, ltb-true, ltb-false, le-ltb, le-leb}
use Rattle.std.proofs.Math.Bool.{true, false, cond}
use mathlib.Core.List.{List, [], ◌∷◌, ◌++◌, map, map-append}
use Rattle.std.proofs.lemmas.Bool.{lt-leb}
use Rattle.std.proofs.Math.ListN.{length, length-map}
use Rattle.std.proofs.Math.Dec.{ltb}
use Rattle.arrays.specs.Tabulate.{tabulate}
use Rattle.facts.specs.declared.FactSet.{FactSet}
use Rattle.answers.specs.Refusals.{place}
use Rattle.answers.specs.declared.refusals.Refusal.{Refusal}
use Rattle.table.specs.Form.{lowest_from}
use Rattle.blocks.specs.Tree.{Block, nil, plain, branch, loop, bundle, call, unread}
use Rattle.blocks.specs.Layout.{also}
use Rattle.blocks.specs.Shape.{size, Numbered}
use Rattle.rules.specs.FactSets.{State}
use Rattle.rules.specs.Stored.{store, new_state, block_after, block_faults}
use Rattle.rules.specs.Verdict.{verdict_of}
use Rattle.rules.specs.declared.Environment.{Environment}
use Rattle.edits.specs.TopLevel.{is_in, positions_of, top_level}
use Rattle.edits.specs.Followed.{followed}
use Rattle.edits.specs.Cuts.{top-past}
use Rattle.edits.specs.Edited.{is_empty}
use Rattle.places.specs.Positions.{place_count, position_at, positions, Ascending, staying, last_of, comes_to, stored}
use Rattle.places.specs.Places.{Place, place_of, place_at, places, is_next, kept_at, onward, kept_from, up_to, last_place}
use Rattle.places.specs.WalkFollowed.{faults-followed}
use Rattle.places.specs.KeptLaws.{top_from}
use Rattle.places.specs.FaultPlaces.{Ranged, block-ranged}

abbrev pub positions_in : List Place → List ℕ
positions_in P = map (λ (x : Place). x.position) P

-- ---- of a store

map-tabulate : {A B : Type 0} (n : ℕ) (f : ℕ → A) (g : A → B) → tabulate n (λ i. g (f i)) ≡ map g (tabulate n f)
unfolding tabulate
map-tabulate zero f g = refl
map-tabulate (suc n) f g = ap (λ l. l ++ (g (f n) ∷ [])) (map-tabulate n f g) ∙ sym (map-append g (tabulate n f) (f n ∷ []))

pub positions-places : (S : List ℕ) → positions S ≡ positions_in (places S)
unfolding positions places
positions-places S = map-tabulate (place_count S) (place_at S) (λ (x : Place). x.position)

position-of : (P : List Place) (i : ℕ) → (get_or P i (place_of 0 new_state)).position ≡ get_or (positions_in P) i 0
position-of [] i = refl
position-of (x ∷ P) zero = refl
position-of (x ∷ P) (suc i) = position-of P i

pub last-position : (P : List Place) → (last_place P).position ≡ last_of (positions_in P)
unfolding last_place last_of
last-position P = position-of P (length P - 1) ∙ ap (λ (n : ℕ). get_or (positions_in P) (n - 1) 0) (sym (length-map P (λ (x : Place). x.position)))

-- ---- that an edit leaves

lowest-shift : (f : ℕ → Bool) (n i : ℕ) → lowest_from f (suc i) n ≡ suc (lowest_from (λ j. f (suc j)) i n)
unfolding lowest_from
lowest-shift f zero i = refl
lowest-shift f (suc n) i = rw (add-one, add-one) (go (f (suc i)) (lowest-shift f n (suc i)))
  where
    go : (b : Bool) → lowest_from f (suc (suc i)) n ≡ suc (lowest_from (λ j. f (suc j)) (suc i) n)
        → cond b (lowest_from f (suc (suc i)) n) (suc i) ≡ suc (cond b (lowest_from (λ j. f (suc j)) (suc i) n) i)
    go true e = e
    go false e = refl

up-to-more : (x : Place) (P : List Place) (p : ℕ) → up_to (x ∷ P) p ≡ cond (leb x.position p) (suc (up_to P p)) 0
unfolding up_to lowest_from
up-to-more x P p = ap (λ (n : ℕ). cond (leb x.position p) n 0) (lowest-shift (λ j. leb (get_or (x ∷ P) j (place_of 0 new_state)).position p) (length P) 0)

pub staying-places : (P : List Place) (p : ℕ) → positions_in (take (up_to P p) P) ≡ staying p (positions_in P)
unfolding staying
staying-places [] p = go (up_to [] p)
  where
    go : (n : ℕ) → positions_in (take n []) ≡ []
    go zero = refl
    go (suc n) = refl
staying-places (x ∷ P) p = rw (up-to-more x P p) (go (leb x.position p) (staying-places P p))
  where
    go : (b : Bool) → positions_in (take (up_to P p) P) ≡ staying p (positions_in P)
        → positions_in (take (cond b (suc (up_to P p)) 0) (x ∷ P)) ≡ cond b (x.position ∷ staying p (positions_in P)) []
    go true e = ap (λ l. x.position ∷ l) e
    go false e = refl

-- ---- that a walk keeps

or-first : (x y : Bool) → x ≡ true → (x || y) ≡ true
or-first x y e = rw e

or-second : (x y : Bool) → y ≡ true → (x || y) ≡ true
or-second true y e = refl
or-second false y e = e

-- A walk with this verdict comes to a.
comes : {v : Result (Unit {0}) Refusal} (G : List Refusal) (a b c : ℕ) → Ranged b c G → a < b → v ≡ verdict_of G → comes_to v a ≡ true
unfolding verdict_of Ranged
comes [] a b c g p e = rw e
comes (r ∷ G) a b c g p e = rw e (le-leb a (place r) (omega (arith, g.0.0)))

module _ (K : List ℕ) (n : ℕ) where
  at-positions : (b : Bool) (P : List Place) (a : ℕ) (w : State FactSet) → b ≡ true → positions_in (kept_at K n P a w)
      ≡ cond (b && (is_in K a && ((eqb (length (positions_in P)) 0 || ltb (last_of (positions_in P)) a) && ltb (length (positions_in P)) n)))
      (positions_in P ++ (a ∷ [])) (positions_in P)
  unfolding kept_at is_next last_place
  at-positions b P a w e =
      rw (e, length-map P (λ (x : Place). x.position), ← last-position P) (go (is_in K a && (is_next P a && ltb (length P) n)))
    where
      go : (d : Bool) → positions_in (cond d (P ++ (place_of a w ∷ [])) P) ≡ cond d (positions_in P ++ (a ∷ [])) (positions_in P)
      go true = map-append (λ (x : Place). x.position) P (place_of a w ∷ [])
      go false = refl

  stored_past : (r : Refusal) (A P : List ℕ) → ((x : ℕ) → is_in A x ≡ true → place r < x) → stored K n (Err r) A P ≡ P
  unfolding stored is_in
  stored_past r [] P f = refl
  stored_past r (a ∷ A) P f =
      rw (lt-leb a (place r) (f a (or-first (eqb a a) _ (eq-eqb a a refl)))) (stored_past r A P (λ x e. f x (or-second (eqb a x) _ e)))

  step : {v : Result (Unit {0}) Refusal} (F G : List Refusal) (a b c : ℕ) (A : List ℕ) (P Q : List Place) (w : State FactSet) → Ranged a b F
      → Ranged b c G → a < b
      → ((x : ℕ) → is_in A x ≡ true → b ≤ x) → v ≡ verdict_of (also F G)
      → (v ≡ verdict_of G → positions_in Q ≡ stored K n v A (positions_in (kept_at K n P a w)))
      → positions_in (onward F Q (kept_at K n P a w)) ≡ stored K n v (a ∷ A) (positions_in P)
  unfolding also verdict_of Ranged stored is_empty
  step {v} [] G a b c A P Q w f g p i e q =
      q e ∙ ap (stored K n v A) (at-positions (comes_to v a) P a w (comes G a b c g p e))
  step {v} (r ∷ F) G a b c A P Q w f g p i e q =
      let Left : Result (Unit {0}) Refusal → Type 0 = λ u. positions_in (kept_at K n P a w) ≡ stored K n u (a ∷ A) (positions_in P) in
      subst Left (sym e) (at-positions (leb a (place r)) P a w (le-leb a (place r) f.0.0)
      ∙ sym (stored_past r A _ (λ x y. omega (arith, f.0.1, i x y))))

  module _ (E : Environment) where
    -- The first statement t of a block, and the rest r from b on.
    part : {v : Result (Unit {0}) Refusal} (t r : Block) (a b : ℕ) (w : State FactSet) (P : List Place) → Numbered t a → b ≡ a + size t → 0 < size t
        → Numbered r b
        → v ≡ verdict_of (block_faults E [] [] (followed t r) w)
        → ((u : State FactSet) (Q : List Place) → v ≡ verdict_of (block_faults E [] [] r u)
        → positions_in (kept_from K n E r u Q) ≡ stored K n v (positions_of r) (positions_in Q))
        → positions_in (onward (block_faults E [] [] t w) (kept_from K n E r (block_after E [] t w) (kept_at K n P a w)) (kept_at K n P a w))
        ≡ stored K n v (a ∷ positions_of r) (positions_in P)
    unfolding top_level
    part t r a b w P m z s o e ih =
        step (block_faults E [] [] t w) (block_faults E [] [] r (block_after E [] t w)) a b (b + size r) (positions_of r) P _ w
        (rw z (block-ranged store E t a m w)) (block-ranged store E r b o (block_after E [] t w)) (omega arith) (λ x y. top_from r b x o y)
        (e ∙ ap verdict_of (faults-followed store E [] t r a m w)) (λ y. ih (block_after E [] t w) (kept_at K n P a w) y)

    pub kept-positions : {v : Result (Unit {0}) Refusal} (t : Block) (a : ℕ) → Numbered t a → (w : State FactSet) (P : List Place)
        → v ≡ verdict_of (block_faults E [] [] t w)
        → positions_in (kept_from K n E t w P) ≡ stored K n v (positions_of t) (positions_in P)
    unfolding kept_from positions_of stored followed size
    kept-positions nil a m w P e = refl
    kept-positions (plain x s r) a m w P e =
        part (plain x s nil) r x (x + 1) w P (refl, tt) (omega arith) (omega arith) m.1 e (λ u Q y. kept-positions r (x + 1) m.1 u Q y)
    kept-positions (call x s r) a m w P e =
        part (call x s nil) r x (x + 1) w P (refl, tt) (omega arith) (omega arith) m.1 e (λ u Q y. kept-positions r (x + 1) m.1 u Q y)
    kept-positions (branch x c t o r) a m w P e =
        part (branch x c t o nil) r x (x + 1 + size t + size o) w P (refl, m.1, m.2, tt) (omega arith) (omega arith) m.3 e
        (λ u Q y. kept-positions r (x + 1 + size t + size o) m.3 u Q y)
    kept-positions (loop x c t r) a m w P e =
        part (loop x c t nil) r x (x + 1 + size t) w P (refl, m.1, tt) (omega arith) (omega arith) m.2 e
        (λ u Q y. kept-positions r (x + 1 + size t) m.2 u Q y)
    kept-positions (bundle x ss r) a m w P e =
        part (bundle x ss nil) r x (x + 1 + length ss) w P (refl, tt) (omega arith) (omega arith) m.1 e
        (λ u Q y. kept-positions r (x + 1 + length ss) m.1 u Q y)
    kept-positions (unread x) a m w P e = absurd m

-- ---- in order

last_more : (p q : ℕ) (P : List ℕ) → last_of (p ∷ (q ∷ P)) ≡ last_of (q ∷ P)
unfolding last_of
last_more p q P =
    let y : length (p ∷ (q ∷ P)) - 1 ≡ suc (length P) = omega arith in
    let z : length (q ∷ P) - 1 ≡ length P = omega arith in
    rw (y, z)

behind-last : (P : List ℕ) (a : ℕ) → (eqb (length P) 0 || ltb (last_of P) a) ≡ true → (length P ≡ 0 → ⊥) → last_of P < a
behind-last P a e q = let z = ne_eqb (length P) 0 q in ltb-true (last_of P) a (rw z at e)

ascending-more : (P : List ℕ) (a : ℕ) → Ascending P → ((length P ≡ 0 → ⊥) → last_of P < a) → Ascending (P ++ (a ∷ []))
unfolding Ascending last_of
ascending-more [] a o e = tt
ascending-more (p ∷ []) a o e = (last_one p a (e (λ z. omega arith)), tt)
  where
    last_one : (x y : ℕ) → last_of (x ∷ []) < y → x < y
    last_one x y l = l
ascending-more (p ∷ (q ∷ P)) a o e =
    let z = last_more p q P in (o.0, ascending-more (q ∷ P) a o.1 (λ y. rw z at (e (λ i. omega arith))))

pub ascending-stored : (K : List ℕ) (n : ℕ) (v : Result (Unit {0}) Refusal) (A P : List ℕ) → Ascending P → Ascending (stored K n v A P)
unfolding stored
ascending-stored K n v [] P o = o
ascending-stored K n v (a ∷ A) P o =
    ascending-stored K n v A _ (go (comes_to v a) (is_in K a) (eqb (length P) 0 || ltb (last_of P) a) refl (ltb (length P) n))
  where
    go : (b c d : Bool) → (eqb (length P) 0 || ltb (last_of P) a) ≡ d → (f : Bool) → Ascending (cond (b && (c && (d && f))) (P ++ (a ∷ [])) P)
    go true true true e true = ascending-more P a o (behind-last P a e)
    go true true true e false = o
    go true true false e f = o
    go true false d e f = o
    go false c d e f = o

pub ascending-staying : (p : ℕ) (P : List ℕ) → Ascending P → Ascending (staying p P)
unfolding Ascending staying
ascending-staying p [] o = tt
ascending-staying p (q ∷ []) o = go (leb q p)
  where
    go : (b : Bool) → Ascending (cond b (q ∷ []) [])
    go true = tt
    go false = tt
ascending-staying p (q ∷ (r ∷ P)) o = go (leb q p) (leb r p) (ascending-staying p (r ∷ P) o.1)
  where
    go : (b c : Bool) → Ascending (cond c (r ∷ staying p P) []) → Ascending (cond b (q ∷ cond c (r ∷ staying p P) []) [])
    go true true e = (o.0, e)
    go true false e = tt
    go false c e = tt

-- ---- of a whole table, from a place on

stored-append : (K : List ℕ) (n : ℕ) (v : Result (Unit {0}) Refusal) (A B P : List ℕ) → stored K n v (A ++ B) P ≡ stored K n v B (stored K n v A P)
unfolding stored
stored-append K n v [] B P = refl
stored-append K n v (a ∷ A) B P = stored-append K n v A B _

stored-none : (K : List ℕ) (n : ℕ) (v : Result (Unit {0}) Refusal) (A P : List ℕ) → A ≡ [] → stored K n v A P ≡ P
unfolding stored
stored-none K n v A P e = rw e

positions-followed : (t u : Block) (a : ℕ) → Numbered t a → positions_of (followed t u) ≡ positions_of t ++ positions_of u
unfolding positions_of followed
positions-followed nil u a n = refl
positions-followed (plain x s r) u a n = ap (λ l. x ∷ l) (positions-followed r u (x + 1) n.1)
positions-followed (call x s r) u a n = ap (λ l. x ∷ l) (positions-followed r u (x + 1) n.1)
positions-followed (branch x c t e r) u a n = ap (λ l. x ∷ l) (positions-followed r u (x + 1 + size t + size e) n.3)
positions-followed (loop x c t r) u a n = ap (λ l. x ∷ l) (positions-followed r u (x + 1 + size t) n.2)
positions-followed (bundle x ss r) u a n = ap (λ l. x ∷ l) (positions-followed r u (x + 1 + length ss) n.1)
positions-followed (unread x) u a n = absurd n

and_none : (b c f : Bool) → (b && (c && (false && f))) ≡ false
and_none true true f = refl
and_none true false f = refl
and_none false c f = refl

-- Positions before the last that is kept are passed over.
stored-before : (K : List ℕ) (n : ℕ) (v : Result (Unit {0}) Refusal) (A P : List ℕ) → (length P ≡ 0 → ⊥) → ((x : ℕ) → is_in A x ≡ true → x ≤ last_of P)
    → stored K n v A P ≡ P
unfolding stored is_in
stored-before K n v [] P q f = refl
stored-before K n v (a ∷ A) P q f =
    rw (ne_eqb (length P) 0 q, le-ltb (last_of P) a (f a (or-first (eqb a a) _ (eq-eqb a a refl))), and_none (comes_to v a) (is_in K a) (ltb (length P) n))
    (stored-before K n v A P q (λ x e. f x (or-second (eqb a x) _ e)))

no-positions : (t : Block) (a : ℕ) → Numbered t a → size t ≡ 0 → positions_of t ≡ []
unfolding positions_of size
no-positions nil a n e = refl
no-positions (plain x s r) a n e = absurd (omega arith)
no-positions (call x s r) a n e = absurd (omega arith)
no-positions (branch x c t o r) a n e = absurd (omega arith)
no-positions (loop x c t r) a n e = absurd (omega arith)
no-positions (bundle x ss r) a n e = absurd (omega arith)
no-positions (unread x) a n e = absurd n

top-until : (t : Block) (a p : ℕ) → Numbered t a → is_in (positions_of t) p ≡ true → p < a + size t
unfolding top_level
top-until t a p n e = go (ltb p (a + size t)) refl
  where
    go : (b : Bool) → ltb p (a + size t) ≡ b → p < a + size t
    go true q = ltb-true p (a + size t) q
    go false q =
        let o : true ≡ false = sym e ∙ top-past t a (a + size t) p n refl (ltb-false p (a + size t) q) in
        let z : ◌≡◌ {A = ℕ} 0 1 = cc in absurd (omega arith)

-- The positions kept by the walk from the last of P on, u, are those of the walk over the whole, whose first part is t.
pub stored-from : (K : List ℕ) (n : ℕ) (v : Result (Unit {0}) Refusal) (t u : Block) (P : List ℕ) → Numbered t 0 → size t ≡ last_of P
    → stored K n v (positions_of (followed t u)) P ≡ stored K n v (positions_of u) P
unfolding last_of
stored-from K n v t u P m e =
    ap (λ A. stored K n v A P) (positions-followed t u 0 m)
    ∙ (stored-append K n v (positions_of t) (positions_of u) P ∙ ap (stored K n v (positions_of u)) (go P e))
  where
    go : (Q : List ℕ) → size t ≡ last_of Q → stored K n v (positions_of t) Q ≡ Q
    go [] z = stored-none K n v (positions_of t) [] (no-positions t 0 m z)
    go (q ∷ Q) z = stored-before K n v (positions_of t) (q ∷ Q) (λ y. omega arith) (λ x y. omega (arith, top-until t 0 x m y, z))
