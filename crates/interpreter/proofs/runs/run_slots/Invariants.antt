use Prim.Native.Nat.{◌-◌, ◌≤◌}
use mathlib.Core.Path.{◌≡◌}
use lib.ListN.{length}
use Rattle.steps.specs.Bare.{Prepared}
use Rattle.interpreter.specs.BareRun.{SafeRun, bare_run}
use Rattle.interpreter.proofs.runs.run_slots.Given as goal

abbrev pub invariant-loop-at : goal.invariant-loop-at
invariant-loop-at l = (bare_run l.table l.sections l.initial.ends l.directory l.successors (l.limit - l.made) l.made l.first l.initial.values l.initial.cells
    ≡ bare_run l.table l.sections l.ends l.directory l.successors (l.limit - l.steps) l.steps l.at l.values l.cells)
    × (l.steps ≤ l.limit)
    × SafeRun l.table l.sections l.ends l.directory l.successors (l.limit - l.steps) l.at l.values l.cells
    × Prepared l.table l.sections l.ends l.directory l.successors l.values
    × (length l.ends ≡ length l.initial.ends)
    × (length l.values ≡ length l.initial.values)
    × (length l.cells ≡ length l.initial.cells)

abbrev pub decreases-loop-at : goal.decreases-loop-at
decreases-loop-at l = l.limit - l.steps
