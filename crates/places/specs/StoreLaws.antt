-- Laws of the store: what its code leaves.
use Rattle.std.specs.Prelude.{ℕ, zero, suc, ◌+◌, ◌-◌, ◌*◌, ◌/◌, ◌<◌, ◌≤◌, min, ◌≡◌, refl, Bool, true, false, ◌&&◌, ◌||◌, cond, length, get_or, set, take}
use Rattle.std.specs.Prelude.{eqb, ltb, leb}
use Rattle.std.specs.List.{list_any}
use Rattle.std.proofs.Common.{sym, ◌∙◌, arith, pos_of_ne-zero, length-set, length-append, get_or-set_same, get_or-set_other, take_all}
use Rattle.std.proofs.Math.Path.{ap, ap₂}
use mathlib.Core.List.{List, [], ◌∷◌, ◌++◌}
use Rattle.std.proofs.Math.Numerals.{add-one}
use borrow.Author.Tests.{eqb-true, eqb-false, eq-eqb, ne_eqb, ltb-true, ltb-false, lt-ltb, le-ltb, le-leb, leb-true, leb-false}
use Rattle.std.proofs.lemmas.List.{take-append-le}
use Rattle.arrays.specs.Tabulate.{tabulate}
use Rattle.arrays.specs.TabulateLaws.{length-tabulate, get_d_tabulate, tabulate-alike}
use Rattle.arrays.specs.Overwritten.{Overwritten}
use Rattle.facts.specs.Words.{loaded, loaded-same, Saved}
use Rattle.facts.specs.declared.FactSet.{FactSet}
use Rattle.table.specs.Form.{lowest_from}
use Rattle.rules.specs.FactSets.{State}
use Rattle.rules.specs.Stored.{new_state}
use Rattle.declared.specs.Force.{state_of}
use Rattle.places.specs.Places.{Place, place_of, rows_at, state_at, place_at, places, is_next, kept_at, up_to}
use Rattle.edits.specs.TopLevel.{is_in}
use Rattle.places.specs.Positions.{place_start, capacity, place_count, position_at}

-- The store holds these places now, and is as long as it was.
pub record Restored (old : List ℕ) (P : List Place) (new : List ℕ) : Type 0 where
  pub long : length new ≡ length old
  pub holds : places new ≡ P

-- The rows stand in the 16 words from `at` on.
pub record RowsSaved (old : List ℕ) (at : ℕ) (R : List ℕ) (new : List ℕ) : Type 0 where
  pub words : Overwritten 0 old at 16 (λ r. get_or R r 0) new
  pub whole : tabulate 16 (λ r. get_or R r 0) ≡ R

pub count-within : (S : List ℕ) → place_count S ≤ capacity S
unfolding place_count
count-within S = omega arith

pub place-within : (S : List ℕ) (j : ℕ) → j < capacity S → place_start j + 307 ≤ length S
unfolding capacity
place-within S j p = omega arith

pub place-kept : (S : List ℕ) (j : ℕ) {n : ℕ} → n ≡ place_count S → j < n → 1 + 307 * j + 307 ≤ length S
place-kept S j e h = place-within S j (omega (arith, e, h, count-within S))

pub places-long : (S : List ℕ) → length (places S) ≡ place_count S
unfolding places
places-long S = length-tabulate (place_count S) (place_at S)

pub places-at : (S : List ℕ) (j : ℕ) (d : Place) → j < place_count S → get_or (places S) j d ≡ place_at S j
unfolding places
places-at S j d p = get_d_tabulate (place_count S) (place_at S) j d p

-- What a place reads as depends on its words alone.
pub place_same : (S Q : List ℕ) (j : ℕ) → ((i : ℕ) → i < 307 → get_or Q (place_start j + i) 0 ≡ get_or S (place_start j + i) 0) → place_at Q j ≡ place_at S j
unfolding position_at state_at rows_at
place_same S Q j e =
    let x : place_start j ≡ place_start j + 0 = omega arith in
    let p : get_or Q (place_start j) 0 ≡ get_or S (place_start j) 0 = rw x (e 0 (omega arith)) in
    rw (p, loaded-same S Q (place_start j + 1) (place_start j + 1) (λ i q. fact i q), tabulate-alike 16 (λ r q. row r q))
  where
    fact : (i : ℕ) → i < 290 → get_or Q (place_start j + 1 + i) 0 ≡ get_or S (place_start j + 1 + i) 0
    fact i q = let y : place_start j + 1 + i ≡ place_start j + (1 + i) = omega arith in rw y (e (1 + i) (omega arith))

    row : (r : ℕ) → r < 16 → get_or Q (place_start j + 291 + r) 0 ≡ get_or S (place_start j + 291 + r) 0
    row r q = let y : place_start j + 291 + r ≡ place_start j + (291 + r) = omega arith in rw y (e (291 + r) (omega arith))

-- ---- the first n places

take-tabulate : {A : Type 0} (m n : ℕ) (f : ℕ → A) → n ≤ m → take n (tabulate m f) ≡ tabulate n f
unfolding tabulate
take-tabulate zero n f p = let z : n ≡ 0 = omega arith in rw z
take-tabulate (suc m) n f p = go (ltb m n) refl (take-tabulate m n f)
  where
    go : (b : Bool) → ltb m n ≡ b → (n ≤ m → take n (tabulate m f) ≡ tabulate n f) → take n (tabulate m f ++ (f m ∷ [])) ≡ tabulate n f
    go true e ih =
        let q = ltb-true m n e in
        let z : n ≡ suc m = omega arith in
        rw z (take_all (suc m) (tabulate m f ++ (f m ∷ [])) (omega (arith, length-append (tabulate m f) (f m ∷ []), length-tabulate m f)))
    go false e ih =
        let q = ltb-false m n e in
        take-append-le n (tabulate m f) (f m ∷ []) (omega (arith, length-tabulate m f)) ∙ ih q

-- The number of places set anew.
pub kept-first : (S : List ℕ) (n : ℕ) → n ≤ place_count S → 0 < length S → Restored S (take n (places S)) (set S 0 n)
unfolding places place_count capacity
kept-first S n p q = record {
  long = length-set S 0 n;
  holds =
      let c : place_count (set S 0 n) ≡ n = count in
      rw c (tabulate-alike n (λ j l. place_same S (set S 0 n) j (λ i r. get_or-set_other S 0 (place_start j + i) n 0 (λ e. omega arith)))
      ∙ sym (take-tabulate (place_count S) n (place_at S) p));
}
  where
    count : min (get_or (set S 0 n) 0 0) ((length (set S 0 n) - 1) / 307) ≡ n
    count = rw (get_or-set_same S 0 n 0 q, length-set S 0 n) (omega arith)

pub kept-none : (S : List ℕ) (n : ℕ) → n ≤ place_count S → length S ≤ 0 → Restored S (take n (places S)) S
unfolding places place_count capacity tabulate
kept-none S n p q =
    let z : place_count S ≡ 0 = omega arith in
    let y : n ≡ 0 = omega arith in
    record { long = refl; holds = rw (z, y) }

-- ---- one more place

module _ (S : List ℕ) (a : ℕ) (f : FactSet) (R : List ℕ) {S₂ S₃ : List ℕ} (room : place_count S < capacity S)
    (facts : Saved (set S (place_start (place_count S)) a) (place_start (place_count S) + 1) f S₂)
    (rows : Overwritten 0 S₂ (place_start (place_count S) + 291) 16 (λ r. get_or R r 0) S₃)
    (whole : tabulate 16 (λ r. get_or R r 0) ≡ R) where
  within : place_start (place_count S) + 307 ≤ length S
  within = place-within S (place_count S) room

  long_as : length (set S₃ 0 (place_count S + 1)) ≡ length S
  long_as = length-set S₃ 0 (place_count S + 1) ∙ (rows.long ∙ (facts.words.long ∙ length-set S (place_start (place_count S)) a))

  three-long : length S₃ ≡ length S
  three-long = rows.long ∙ (facts.words.long ∙ length-set S (place_start (place_count S)) a)

  other : (i : ℕ) → 0 < i → i < place_start (place_count S) → get_or (set S₃ 0 (place_count S + 1)) i 0 ≡ get_or S i 0
  other i p q =
      get_or-set_other S₃ 0 i (place_count S + 1) 0 (λ e. omega arith) ∙ (rows.below i (omega arith) ∙ (facts.words.below i (omega arith)
      ∙ get_or-set_other S (place_start (place_count S)) i a 0 (λ e. omega arith)))

  position_here : get_or (set S₃ 0 (place_count S + 1)) (place_start (place_count S)) 0 ≡ a
  position_here =
      get_or-set_other S₃ 0 (place_start (place_count S)) (place_count S + 1) 0 (λ e. omega arith)
      ∙ (rows.below (place_start (place_count S)) (omega arith) ∙ (facts.words.below (place_start (place_count S)) (omega arith)
      ∙ get_or-set_same S (place_start (place_count S)) a 0 (omega (arith, within))))

  facts-here : loaded (set S₃ 0 (place_count S + 1)) ((place_start (place_count S)) + 1) ≡ f
  facts-here =
      loaded-same S₂ (set S₃ 0 (place_count S + 1)) ((place_start (place_count S)) + 1) ((place_start (place_count S)) + 1)
      (λ i p. get_or-set_other S₃ 0 ((place_start (place_count S)) + 1 + i) (place_count S + 1) 0 (λ e. omega arith)
      ∙ rows.below ((place_start (place_count S)) + 1 + i) (omega arith)) ∙ facts.back

  rows-here : tabulate 16 (λ r. get_or (set S₃ 0 (place_count S + 1)) ((place_start (place_count S)) + 291 + r) 0) ≡ R
  rows-here =
      tabulate-alike 16 (λ r p. get_or-set_other S₃ 0 ((place_start (place_count S)) + 291 + r) (place_count S + 1) 0 (λ e. omega arith) ∙ rows.inside r p)
      ∙ whole

  place_here : place_at (set S₃ 0 (place_count S + 1)) (place_count S) ≡ place_of a (state_of f R)
  unfolding position_at state_at rows_at
  place_here = rw (position_here, facts-here, rows-here)

  count-here : place_count (set S₃ 0 (place_count S + 1)) ≡ place_count S + 1
  unfolding place_count capacity
  count-here =
      rw (get_or-set_same S₃ 0 (place_count S + 1) 0 (omega (arith, three-long, within)), long_as) (omega (arith, room))

  pub pushed : Restored S (places S ++ (place_of a (state_of f R) ∷ [])) (set S₃ 0 (place_count S + 1))
  unfolding places tabulate
  pushed = record {
    long = long_as;
    holds = ap (λ (n : ℕ). tabulate n (place_at (set S₃ 0 (place_count S + 1)))) (count-here ∙ add-one (place_count S))
        ∙ ap₂ (λ (l : List Place) (x : Place). l ++ (x ∷ []))
        (tabulate-alike (place_count S) (λ j p. place_same S (set S₃ 0 (place_count S + 1)) j (λ i q. other (place_start j + i) (omega arith) (omega arith))))
        place_here;
  }

pub pushed_at : (S : List ℕ) (a : ℕ) (f : FactSet) (R : List ℕ) {S₂ S₃ : List ℕ} {n : ℕ} → n ≡ place_count S → place_count S < capacity S
    → Saved (set S (1 + 307 * n) a) (1 + 307 * n + 1) f S₂ → RowsSaved S₂ (1 + 307 * n + 291) R S₃
    → Restored S (places S ++ (place_of a (state_of f R) ∷ [])) (set S₃ 0 (n + 1))
pushed_at S a f R e room p q =
    let p' = rw e at p in
    let q' = rw e at q in
    rw e (pushed S a f R room p' q'.words q'.whole)

-- ---- which are named

pub named-any : (K : List ℕ) (a : ℕ) → list_any (λ k. eqb k a) K ≡ is_in K a
unfolding is_in
named-any [] a = refl
named-any (k ∷ K) a = ap (λ (b : Bool). eqb k a || b) (named-any K a)

-- ---- the place is kept where it is named, next and fits

module _ (K : List ℕ) (n : ℕ) (P : List Place) (a : ℕ) (w : State FactSet) where
  pub not_named : is_in K a ≡ false → P ≡ kept_at K n P a w
  unfolding kept_at
  not_named e = rw e

  module _ (here : is_in K a ≡ true) where
    pub not-next : is_next P a ≡ false → P ≡ kept_at K n P a w
    unfolding kept_at
    not-next e = rw (here, e)

    module _ (next : is_next P a ≡ true) where
      pub no_room : n ≤ length P → P ≡ kept_at K n P a w
      unfolding kept_at
      no_room p = rw (here, next, le-ltb (length P) n p)

      pub some-room : length P < n → P ++ (place_of a w ∷ []) ≡ kept_at K n P a w
      unfolding kept_at
      some-room p = rw (here, next, lt-ltb (length P) n p)

-- What `keep_place` leaves.
module _ (K S : List ℕ) (a : ℕ) (w : State FactSet) where
  pub left-unnamed : is_in K a ≡ false → Restored S (kept_at K (capacity S) (places S) a w) S
  left-unnamed e = record { long = refl; holds = not_named K (capacity S) (places S) a w e }

  module _ (here : is_in K a ≡ true) where
    pub left-kept : is_next (places S) a ≡ false → Restored S (kept_at K (capacity S) (places S) a w) S
    left-kept e = record { long = refl; holds = not-next K (capacity S) (places S) a w here e }

    module _ (next : is_next (places S) a ≡ true) where
      pub left-full : capacity S ≤ place_count S → Restored S (kept_at K (capacity S) (places S) a w) S
      left-full p = record { long = refl; holds = no_room K (capacity S) (places S) a w here next (omega (arith, places-long S)) }

      pub left-more : {Q : List ℕ} → place_count S < capacity S → Restored S (places S ++ (place_of a w ∷ [])) Q
          → Restored S (kept_at K (capacity S) (places S) a w) Q
      left-more p q = record { long = q.long; holds = q.holds ∙ some-room K (capacity S) (places S) a w here next (omega (arith, places-long S)) }

pub next-first : (S : List ℕ) (a : ℕ) → place_count S ≡ 0 → true ≡ is_next (places S) a
unfolding is_next
next-first S a e = rw (places-long S, e)

pub next-behind : (S : List ℕ) (a j : ℕ) → j ≡ place_count S - 1 → (place_count S ≡ 0 → ⊥) → ltb (position_at S j) a ≡ is_next (places S) a
unfolding is_next
next-behind S a j e q =
    rw (places-long S, ne_eqb (place_count S) 0 q, e)
    (ap (λ (x : Place). ltb x.position a) (sym (places-at S (place_count S - 1) (place_of 0 new_state) (omega (arith, pos_of_ne-zero q)))))

-- ---- how many are at or before a position

lowest-alike : (f g : ℕ → Bool) (m : ℕ) → ((i : ℕ) → i < m → f i ≡ g i) → (n i : ℕ) → i + n ≤ m → lowest_from f i n ≡ lowest_from g i n
unfolding lowest_from
lowest-alike f g m e zero i p = refl
lowest-alike f g m e (suc n) i p = rw (e i (omega arith), lowest-alike f g m e n (i + 1) (omega arith))

pub up-to-words : (S : List ℕ) (p : ℕ) → lowest_from (λ j. leb (position_at S j) p) 0 (place_count S) ≡ up_to (places S) p
unfolding up_to
up-to-words S p =
    rw (places-long S) (lowest-alike (λ j. leb (position_at S j) p) (λ j. leb (get_or (places S) j (place_of 0 new_state)).position p) (place_count S)
    (λ i q. ap (λ (x : Place). leb x.position p) (sym (places-at S i (place_of 0 new_state) q))) (place_count S) 0 (omega arith))
