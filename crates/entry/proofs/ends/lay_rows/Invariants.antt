use Prim.Native.Nat.{◌-◌, ◌/◌, ◌%◌}
use lib.ListN.{get_or}
use Rattle.arrays.specs.TabulateLaws.{Filled}
use Rattle.rules.specs.BoundsRules.{nothing_known}
use Rattle.entry.specs.Ends.{bounds_number}
use Rattle.entry.proofs.ends.lay_rows.Given as goal

abbrev pub invariant-loop-i : goal.invariant-loop-i
invariant-loop-i l = Filled l.ends l.initial.ends 384 (λ n. bounds_number (get_or l.rows (n / 6) nothing_known) (n % 6)) l.i

abbrev pub decreases-loop-i : goal.decreases-loop-i
decreases-loop-i l = 384 - l.i
