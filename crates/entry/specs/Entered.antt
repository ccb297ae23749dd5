-- The answer at entry: begun where nothing refuses, else the first refusal.
use Rattle.std.specs.Prelude.{List, [], ◌∷◌, Err, Ok, Result}
use Rattle.answers.specs.declared.refusals.Refusal.{Refusal}

unfoldable pub entered : List Refusal → Result (Unit {0}) Refusal
entered [] = Ok tt
entered (r ∷ rs) = Err r
