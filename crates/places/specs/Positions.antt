-- Point 13: what a caller sees of a store of places. "The caller lends a store of places, each for one fact set with its bounds, and names with each call the
-- top-level positions to keep". A store is words: how many places are kept, then 307 words a place, of which the first is its position.
use Rattle.answers.specs.declared.refusals.Refusal.{Refusal}
use Rattle.std.specs.Prelude.{ℕ, ◌+◌, ◌-◌, ◌*◌, ◌/◌, ◌<◌, min, Bool, true, ◌&&◌, ◌||◌, cond, List, [], ◌∷◌, ◌++◌, ℤ, length, get_or, eqb, ltb, leb}
use Rattle.std.specs.Prelude.{Err, Ok, Result}
use Rattle.arrays.specs.Tabulate.{tabulate}
use Rattle.answers.specs.Refusals.{place}
use Rattle.words.specs.declared.sections.Sections.{Sections}
use Rattle.statements.specs.Statements.{statement_at}
use Rattle.edits.specs.TopLevel.{is_in, span_of}

-- ---- the words

abbrev pub place_start : ℕ → ℕ
place_start j = 1 + 307 * j

-- How many places there is room for, and how many are kept.
unfoldable pub capacity : List ℕ → ℕ
capacity S = (length S - 1) / 307

unfoldable pub place_count : List ℕ → ℕ
place_count S = min (get_or S 0 0) (capacity S)

unfoldable pub position_at : List ℕ → ℕ → ℕ
position_at S j = get_or S (place_start j) 0

-- The positions that are kept.
unfoldable pub positions : List ℕ → List ℕ
positions S = tabulate (place_count S) (position_at S)

-- "lowest first": they stand in order.
unfoldable pub Ascending : List ℕ → Type 0
Ascending [] = Unit
Ascending (p ∷ []) = Unit
Ascending (p ∷ (q ∷ P)) = (p < q) × Ascending (q ∷ P)

-- ---- which positions are kept

-- "an edit drops those behind it": of positions in order, those at or before p.
unfoldable pub staying : ℕ → List ℕ → List ℕ
staying p [] = []
staying p (q ∷ P) = cond (leb q p) (q ∷ staying p P) []

-- "the last stored place at or before the edit (else the start)", of those that stay.
unfoldable pub last_of : List ℕ → ℕ
last_of P = get_or P (length P - 1) 0

-- The walk comes to the statement a: at a refusal to the statement that is refused, or that has it in its blocks.
abbrev pub comes_to : Result (Unit {0}) Refusal → ℕ → Bool
comes_to (Ok tt) a = true
comes_to (Err r) a = leb a (place r)

-- "each that fits is stored when the walk passes it, lowest first": of the positions of a walk, those named in K, behind those that are kept, while one of n
-- places is free.
unfoldable pub stored : List ℕ → ℕ → Result (Unit {0}) Refusal → List ℕ → List ℕ → List ℕ
stored K n v [] P = P
stored K n v (a ∷ A) P =
    stored K n v A (cond (comes_to v a && (is_in K a && ((eqb (length P) 0 || ltb (last_of P) a) && ltb (length P) n))) (P ++ (a ∷ [])) P)

-- ---- the statements walked

-- "to the end or the last statement begun": the statement of a refusal is begun, and at 8 and 13 all that is inside of it.
unfoldable pub begun_to : List ℤ → Sections → Result (Unit {0}) Refusal → ℕ
begun_to T h (Ok tt) = h.statements
begun_to T h (Err r) = cond (ltb (place r) h.statements) (place r + span_of (statement_at T h (place r))) h.statements

-- "a count tells the statements walked: from the last stored place at or before the edit (else the start) to the end or the last statement begun"
abbrev pub walked_from : List ℤ → Sections → ℕ → Result (Unit {0}) Refusal → ℕ
walked_from T h q v = begun_to T h v - q
