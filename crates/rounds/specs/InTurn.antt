-- A routine that is served in turns, in one memory with others: where it stands.
use Rattle.std.specs.Prelude.{ℕ, ◌≡◌, List, ℤ, length, get_or}
use Rattle.table.specs.Form.{sections_of}
use Rattle.words.specs.declared.sections.Sections.{Sections}
use Rattle.rules.specs.Verdict.{environment_of}
use Rattle.machine.specs.Machine.{Point}
use Rattle.machine.specs.Frame.{Elsewhere, SameCells, Own}
use Rattle.entry.specs.Ends.{ends_of}
use Rattle.interpreter.specs.Claim.{Lent}
use Rattle.interpreter.specs.AloneLaws.{point_alone}
use Rattle.interpreter.specs.Outcomes.{outcome_shown}
use Rattle.answers.specs.declared.stops.Outcome.{Outcome}

-- The points of a routine's own machine.
abbrev pub point_from : List ℤ → Lent → ℕ → Point
point_from T l t = point_alone T (sections_of T) l.directory l.cells l.values l.origins t

-- It stands in the memory M as a run by itself with the allowance t, all of it used, does: with the outcome o, the ends in force W, the values vs and its own
-- cells.
pub record InTurn (T : List ℤ) (l : Lent) (t : ℕ) (o : Outcome) (W vs M : List ℕ) : Type 0 where
  pub made : (point_from T l t).steps ≡ t
  pub answer : o ≡ outcome_shown (sections_of T) (point_from T l t).status (point_from T l t).steps (point_from T l t).due
  pub ends : W ≡ ends_of (environment_of T (sections_of T)) (point_from T l t).rows
  pub values : vs ≡ (point_from T l t).values
  pub memory : SameCells l.directory (Own (sections_of T)) (point_from T l t).cells M

-- A turn left all cells but its own objects' as they were.
pub record LeftOthers (h : Sections) (D M N : List ℕ) : Type 0 where
  pub long : length N ≡ length M
  pub elsewhere : (i : ℕ) → Elsewhere D (Own h) i → get_or N i 0 ≡ get_or M i 0
