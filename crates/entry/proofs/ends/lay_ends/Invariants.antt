use Prim.Native.Nat.{◌-◌}
use Rattle.entry.specs.EndsLaws.{laid_number}
use Rattle.arrays.specs.TabulateLaws.{Filled}
use Rattle.entry.proofs.ends.lay_ends.Given as goal

abbrev pub invariant-loop-i : goal.invariant-loop-i
invariant-loop-i l = Filled l.ends l.initial.ends 512 (laid_number l.own l.laid l.sizes l.strings) l.i

abbrev pub decreases-loop-i : goal.decreases-loop-i
decreases-loop-i l = 512 - l.i
