use Prim.Native.Nat.{◌+◌, ◌-◌}
use mathlib.Core.Path.{◌≡◌}
use Rattle.effects.specs.Marks.{targets_from, no_marks, marked}
use Rattle.effects.proofs.loops.mark_targets.Given as goal

abbrev pub invariant-loop-at : goal.invariant-loop-at
invariant-loop-at l = marked no_marks (targets_from l.table l.sections l.first l.count)
    ≡ marked l.marks.each (targets_from l.table l.sections l.at (l.first + l.count - l.at))
