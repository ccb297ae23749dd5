-- `bounds::transfer::forget_bounds` meets its contract.
use Rattle.rules.specs.BoundsRules.{forget_bounds}
use Rattle.bounds.proofs.transfer.forget_bounds.Goals as goal

pub returns : goal.returns
unfolding forget_bounds
returns c = simp (c.forget_end-2.ensures, c.forget_end.ensures)
