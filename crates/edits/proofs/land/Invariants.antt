use mathlib.Core.Path.{◌≡◌}
use Rattle.edits.specs.Cuts.{landing}
use Rattle.edits.proofs.land.Given as goal

abbrev pub invariant-loop-left : goal.invariant-loop-left
invariant-loop-left l = landing l.to l.table l.sections l.from l.to ≡ landing l.left l.table l.sections l.at l.to

abbrev pub decreases-loop-left : goal.decreases-loop-left
decreases-loop-left l = l.left
