-- A set of routines (document 02, point 14): "In a lent set of 1 to 8 routines, without loop facts". What its routines are, and the verdict on it.
use Rattle.rules.specs.declared.SetRefusal.{SetRefusal}
use Rattle.std.specs.Prelude.{ℕ, zero, suc, ◌+◌, ◌<◌, Bool, true, false, not, ◌&&◌, cond, List, [], ◌∷◌, ◌++◌, map, ◌≡◌, leb, eqb, ℤ, pos, negsuc, length, Ok}
use Rattle.std.specs.Prelude.{Err, Result}
use Rattle.std.specs.Prelude.{get_or, set, take, drop, Err, Ok, Result}
use Rattle.answers.specs.declared.refusals.Refusal.{Refusal}
use Rattle.answers.specs.declared.refusals.Refusal.TheVariants.{ObjectLength, RoutineCount}
use Rattle.table.specs.Form.{sections_of, head_right}
use Rattle.rules.specs.FactSets.{FactSets}
use Rattle.rules.specs.Calls.{Routine}
use Rattle.rules.specs.Verdict.{environment_of, faults, Says}
use Rattle.rules.specs.ByChains.{by_chains, Decided}

-- ---- "Only routine 0 lists objects, for all"

-- The words of the objects of a table.
unfoldable pub object_words : List ℤ → List ℤ
object_words T = take (sections_of T).objects (drop (sections_of T).start T)

-- The word i of a directory, which is an offset, n words further on.
abbrev pub further : ℕ → ℤ → ℤ
further n (pos m) = pos (m + n)
further n (negsuc m) = negsuc m

abbrev pub offset_moved : ℕ → List ℤ → ℕ → List ℤ
offset_moved n H i = set H i (further n (get_or H i (pos 0)))

-- The directory H of a table that lists no objects, as it is with n objects: their number, and the offsets of the sections behind them.
unfoldable pub head_for : ℕ → List ℤ → List ℤ
head_for n H = offset_moved n (offset_moved n (offset_moved n (set H 1 (pos n)) 2) 4) 6

-- The table T, which lists no objects, with those of routine 0 put in: so kind 5 names them, and their lengths are known.
unfoldable pub with_objects : List ℤ → List ℤ → List ℤ
with_objects os T = head_for (length os) (take (sections_of T).start T) ++ (os ++ drop (sections_of T).start T)

-- The tables as they are checked and run.
unfoldable pub members : List (List ℤ) → List (List ℤ)
members [] = []
members (T ∷ Ts) = T ∷ map (with_objects (object_words T)) Ts

abbrev pub member_of : List (List ℤ) → ℕ → List ℤ
member_of Ts n = get_or (members Ts) n []

abbrev pub routine_of : List ℤ → Routine
routine_of T = record { table = T; sections = sections_of T; environment = environment_of T (sections_of T) }

unfoldable pub routines_of : List (List ℤ) → List Routine
routines_of Ts = map routine_of (members Ts)

-- The first n routines: those that routine n may call.
unfoldable pub before : ℕ → List Routine → List Routine
before zero rs = []
before (suc n) [] = []
before (suc n) (r ∷ rs) = r ∷ before n rs

-- ---- the verdict on a set

-- "(else 3, place 0)", after 1 and 2.
unfoldable pub lists_objects : ℕ → List ℤ → Bool
lists_objects n T = not (eqb n 0) && head_right T && not (eqb (sections_of T).objects 0)

-- The faults of routine n of a set: "without loop facts", so with the empty list.
unfoldable pub member_faults : FactSets → List (List ℤ) → ℕ → List Refusal
member_faults S Ts n =
    cond (lists_objects n (get_or Ts n [])) (ObjectLength 0 ∷ [])
    (cond (head_right (get_or Ts n [])) (faults S (before n (routines_of Ts)) (member_of Ts n) []) (faults S [] (get_or Ts n []) []))

-- The verdict on routine n, by the paper's chains.
unfoldable pub RoutineJudged : List (List ℤ) → ℕ → Result (Unit {0}) Refusal → Type 0
RoutineJudged Ts n v = Decided (member_of Ts n) (λ d. Says (member_faults (by_chains d) Ts n) v)

unfoldable pub count_right : List (List ℤ) → Bool
count_right Ts = leb 1 (length Ts) && leb (length Ts) 8

-- Routine n is refused, and those before it are accepted.
pub record FirstRefused (Ts : List (List ℤ)) (n : ℕ) (r : Refusal) : Type 0 where
  pub count : count_right Ts ≡ true
  pub below : n < length Ts
  pub refused-it : RoutineJudged Ts n (Err r)
  pub earlier : (m : ℕ) → m < n → RoutineJudged Ts m (Ok tt)

pub record AllAccepted (Ts : List (List ℤ)) : Type 0 where
  pub count : count_right Ts ≡ true
  pub each : (n : ℕ) → n < length Ts → RoutineJudged Ts n (Ok tt)

-- "A set of another size is 15, place 0; then routines are checked by number, and the first one refused is named." (Refusal 15 names routine 0.)
abbrev pub SetRefused : Bool → List (List ℤ) → ℕ → Refusal → Type 0
SetRefused false Ts n r = (n ≡ 0) × (r ≡ RoutineCount)
SetRefused true Ts n r = FirstRefused Ts n r

-- THE VERDICT ON A SET.
unfoldable pub SetJudged : List (List ℤ) → Result (Unit {0}) SetRefusal → Type 0
SetJudged Ts (Ok _) = AllAccepted Ts
SetJudged Ts (Err x) = SetRefused (count_right Ts) Ts x.routine x.refusal
