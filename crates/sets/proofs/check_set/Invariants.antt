use Rattle.std.specs.Prelude.{Ok}
use Prim.Native.Nat.{ℕ, ◌-◌, ◌≤◌, ◌<◌}
use mathlib.Core.Path.{◌≡◌}
use lib.ListN.{length}
use Rattle.rules.specs.Sets.{RoutineJudged}
use Rattle.sets.specs.Tables.{tables_in}
use Rattle.sets.proofs.check_set.Given as goal

abbrev pub invariant-loop-n : goal.invariant-loop-n
invariant-loop-n l = ((m : ℕ) → m < l.n → RoutineJudged (tables_in l.tables l.lengths) m (Ok tt)) × (length l.member ≡ length l.initial.member)
