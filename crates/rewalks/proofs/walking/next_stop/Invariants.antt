use Prim.Native.Nat.{◌-◌}
use Rattle.rewalks.specs.Stops.{Stop}
use Rattle.rewalks.proofs.walking.next_stop.Given as goal

abbrev pub invariant-loop-stop : goal.invariant-loop-stop
invariant-loop-stop l = Stop l.table l.sections l.keep l.at l.end l.stop

abbrev pub decreases-loop-stop : goal.decreases-loop-stop
decreases-loop-stop l = l.end - l.stop
