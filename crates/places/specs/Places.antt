-- The places of a store: behind a place's position stand the 290 words of its fact set, then the rows in force.
use Rattle.std.specs.Prelude.{ℕ, zero, suc, ◌+◌, ◌-◌, ◌*◌, ◌/◌, min, ◌≡◌, Bool, true, false, ◌&&◌, ◌||◌, cond, List, [], ◌∷◌, ◌++◌, length, get_or, eqb, ltb}
use Rattle.std.specs.Prelude.{leb}
use Rattle.arrays.specs.Tabulate.{tabulate}
use Rattle.facts.specs.Store.{new_set}
use Rattle.facts.specs.Words.{loaded}
use Rattle.facts.specs.declared.FactSet.{FactSet}
use Rattle.answers.specs.declared.refusals.Refusal.{Refusal}
use Rattle.table.specs.Form.{lowest_from}
use Rattle.blocks.specs.Tree.{Block, nil, plain, branch, loop, bundle, call, unread}
use Rattle.rules.specs.FactSets.{State}
use Rattle.rules.specs.Stored.{new_state, block_after, block_faults}
use Rattle.rules.specs.declared.Environment.{Environment}
use Rattle.edits.specs.TopLevel.{is_in}
use Rattle.edits.specs.Edited.{is_empty}
use Rattle.places.specs.Positions.{place_start, capacity, place_count, position_at}

-- A place: the walk's state before the top-level statement of this number.
pub record Place : Type 0 where
  pub position : ℕ
  pub state : State FactSet

abbrev pub place_of : ℕ → State FactSet → Place
place_of a w = record { position = a; state = w }

-- ---- the words

unfoldable pub rows_at : List ℕ → ℕ → List ℕ
rows_at S j = tabulate 16 (λ r. get_or S (place_start j + 291 + r) 0)

unfoldable pub state_at : List ℕ → ℕ → State FactSet
state_at S j = record { facts = loaded S (place_start j + 1); rows = rows_at S j }

abbrev pub place_at : List ℕ → ℕ → Place
place_at S j = place_of (position_at S j) (state_at S j)

-- The places that a store holds, whatever its words are.
unfoldable pub places : List ℕ → List Place
places S = tabulate (place_count S) (place_at S)

-- ---- which places a walk keeps

-- Behind every place that is kept already (they stand in order).
unfoldable pub is_next : List Place → ℕ → Bool
is_next P a = eqb (length P) 0 || ltb (get_or P (length P - 1) (place_of 0 new_state)).position a

-- "each that fits is stored when the walk passes it, lowest first": n is the number of places.
unfoldable pub kept_at : List ℕ → ℕ → List Place → ℕ → State FactSet → List Place
kept_at K n P a w = cond (is_in K a && (is_next P a && ltb (length P) n)) (P ++ (place_of a w ∷ [])) P

abbrev pub onward : List Refusal → List Place → List Place → List Place
onward fs P Q = cond (is_empty fs) P Q

-- The places that a walk over a block leaves, from the state w and the places P: before each statement the place is kept, also before the one at which the
-- verdict is refused.
module _ (K : List ℕ) (n : ℕ) (E : Environment) where
  unfoldable pub kept_from : Block → State FactSet → List Place → List Place
  kept_from nil w P = P
  kept_from (plain a s r) w P =
      onward (block_faults E [] [] (plain a s nil) w) (kept_from r (block_after E [] (plain a s nil) w) (kept_at K n P a w)) (kept_at K n P a w)
  kept_from (call a s r) w P =
      onward (block_faults E [] [] (call a s nil) w) (kept_from r (block_after E [] (call a s nil) w) (kept_at K n P a w)) (kept_at K n P a w)
  kept_from (branch a c t e r) w P =
      onward (block_faults E [] [] (branch a c t e nil) w) (kept_from r (block_after E [] (branch a c t e nil) w) (kept_at K n P a w)) (kept_at K n P a w)
  kept_from (loop a c t r) w P =
      onward (block_faults E [] [] (loop a c t nil) w) (kept_from r (block_after E [] (loop a c t nil) w) (kept_at K n P a w)) (kept_at K n P a w)
  kept_from (bundle a ss r) w P =
      onward (block_faults E [] [] (bundle a ss nil) w) (kept_from r (block_after E [] (bundle a ss nil) w) (kept_at K n P a w)) (kept_at K n P a w)
  kept_from (unread a) w P = P

-- ---- the last place at or before a position

-- How many places, from the first on, are at or before p.
unfoldable pub up_to : List Place → ℕ → ℕ
up_to P p = lowest_from (λ j. leb (get_or P j (place_of 0 new_state)).position p) 0 (length P)

-- The last of the places, else the start.
unfoldable pub last_place : List Place → Place
last_place P = get_or P (length P - 1) (place_of 0 new_state)
