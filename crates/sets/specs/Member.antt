-- A routine of a set behind the first: its table with the objects of routine 0 put in (rules/Sets), as it is made and checked.
use Rattle.std.specs.Prelude.{ℕ, ◌≤◌, ◌<◌, ◌≡◌, Bool, true, cond, List, [], ◌∷◌, eqb, ℤ, pos, length, get_or, take}
use Rattle.answers.specs.declared.refusals.Refusal.{Refusal}
use Rattle.answers.specs.declared.refusals.Refusal.TheVariants.{ObjectLength}
use Rattle.words.specs.Sections.{Limits}
use Rattle.words.specs.declared.sections.Sections.{Sections}
use Rattle.table.specs.Form.{sections_of, head_right}
use Rattle.rules.specs.Calls.{Routine}
use Rattle.rules.specs.Sets.{object_words, with_objects}
use Rattle.rules.specs.Stored.{faults}
use Rattle.sets.specs.Checked.{member_words}

-- The faults of a table T of a routine behind the first, where F is routine 0's and `callees` may be called.
unfoldable pub later_faults : List Routine → List ℤ → List ℤ → List Refusal
later_faults callees F T =
    cond (head_right T) (cond (eqb (sections_of T).objects 0) (faults callees (with_objects (object_words F) T) []) (ObjectLength 0 ∷ [])) (faults [] T [])

-- Causes 1 and 2 refuse neither F nor T, and T lists no objects: those of F can be put in.
pub record Puts (F T : List ℤ) (own h : Sections) : Type 0 where
  pub right-first : head_right F ≡ true
  pub right : head_right T ≡ true
  pub none : h.objects ≡ 0
  pub sections-first : own ≡ sections_of F
  pub sections : h ≡ sections_of T
  pub limits-first : Limits own
  pub limits : Limits h

-- The first n words of the room are those of the list `full`.
pub record Copied (full old : List ℤ) (n : ℕ) (new : List ℤ) : Type 0 where
  pub long : length new ≡ length old
  pub words : (i : ℕ) → i < n → get_or new i (pos 0) ≡ get_or full i (pos 0)

-- The room holds the table T with the objects of F, n words.
pub record Put (F T old : List ℤ) (n : ℕ) (new : List ℤ) : Type 0 where
  pub long : length new ≡ length old
  pub within : n ≤ member_words
  pub counted : n ≡ length (with_objects (object_words F) T)
  pub front : take n new ≡ with_objects (object_words F) T
