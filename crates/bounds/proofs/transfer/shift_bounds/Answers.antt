-- `bounds::transfer::shift_bounds` meets its contract.
use Rattle.rules.specs.Stored.{shift_bounds}
use Rattle.rules.specs.BoundsRules as bounds_rules
use Rattle.bounds.proofs.transfer.shift_bounds.Goals as goal

pub returns : goal.returns
unfolding bounds_rules.shift_bounds
returns c = simp (c.shift_end-2.ensures, c.shift_end.ensures)
