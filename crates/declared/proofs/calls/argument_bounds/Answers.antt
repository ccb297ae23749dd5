use Rattle.rules.specs.Calls.{argument_bounds}
use Rattle.declared.proofs.calls.argument_bounds.Goals as goal

pub returns : goal.returns
unfolding argument_bounds
returns c = simp (c.argument_end-2.ensures, c.argument_end.ensures)
