-- The points of a routine by itself, as its own steps make them: what laws speak of. They are those of a set of one (`alone-points` in Alone).
use Rattle.std.specs.Prelude.{ℕ, zero, suc, List, ℤ}
use Rattle.words.specs.declared.sections.Sections.{Sections}
use Rattle.rules.specs.declared.Environment.{Environment}
use Rattle.machine.specs.Machine.{Point, next_point}

-- The point after t steps, or where the run ended before.
unfoldable pub point_after : List ℤ → Sections → Environment → List ℕ → ℕ → Point → Point
point_after T h E D zero P = P
point_after T h E D (suc t) P = let Q = point_after T h E D t P in next_point T h E D Q.status Q
