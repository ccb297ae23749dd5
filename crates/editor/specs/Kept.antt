-- What calls leave, if nobody else writes the table or the store: a table that passes causes 1 to 6, and places in order that a walk from nothing comes to.
use Rattle.std.specs.Prelude.{ℕ, ◌≡◌, List, [], ◌∷◌, ℤ, Ok}
use Rattle.words.specs.declared.sections.Sections.{Sections}
use Rattle.table.specs.Form.{form_of}
use Rattle.blocks.specs.Layout.{layout}
use Rattle.places.specs.Positions.{positions, Ascending}
use Rattle.places.specs.Places.{Place, places}
use Rattle.places.specs.Reached.{Reached}

-- A walk from nothing comes to each of these places.
abbrev pub AllReached : List ℤ → Sections → List Place → Type 0
AllReached T h [] = Unit
AllReached T h (x ∷ xs) = Reached T h x.position x.state × AllReached T h xs

pub record Kept (T : List ℤ) (h : Sections) (S : List ℕ) : Type 0 where
  pub form : form_of T ≡ Ok h
  pub laid : layout T h ≡ []
  pub reached : AllReached T h (places S)
  pub ascending : Ascending (positions S)
