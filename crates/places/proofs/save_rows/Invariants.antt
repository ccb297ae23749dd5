use lib.ListN.{get_or}
use Rattle.arrays.specs.Overwritten.{Overwritten}
use Rattle.places.proofs.save_rows.Given as goal

abbrev pub invariant-loop-i : goal.invariant-loop-i
invariant-loop-i l = Overwritten 0 l.initial.store l.at l.i (λ r. get_or l.rows.each r 0) l.store
