-- `declared::ends::same_bounds` meets its contract.
use Rattle.declared.specs.Shown.{same_bounds}
use Rattle.declared.proofs.ends.same_bounds.Goals as goal

pub returns : goal.returns
unfolding same_bounds
returns c = simp (c.same_known-2.ensures, c.same_known.ensures)
