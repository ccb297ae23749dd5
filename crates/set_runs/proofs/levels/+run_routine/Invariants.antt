use Prim.Native.Nat.{◌-◌, ◌*◌}
use mathlib.Core.Path.{◌≡◌}
use Rattle.set_runs.specs.LevelLaws.{Looping, below}
use Rattle.set_runs.proofs.levels.+run_routine.Given as goal

abbrev pub invariant-loop-level : goal.invariant-loop-level
invariant-loop-level l = Looping l.tables l.lengths l.directory l.successors l.n l.limit l.made l.initial.ends l.initial.values l.initial.cells l.at l.steps
    l.ends l.values l.cells × (l.below ≡ 512 * l.n)

abbrev pub decreases-loop-level : goal.decreases-loop-level
decreases-loop-level l = l.limit - l.steps

abbrev pub decreases-run_routine : goal.decreases-run_routine
decreases-run_routine l = l.n
