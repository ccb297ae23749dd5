use Rattle.table.specs.Variables.{end_zero}
use Rattle.table.proofs.variables.end_zero.Goals as goal

pub returns : goal.returns
unfolding end_zero
returns c = simp (c.is_zero-3.ensures, c.is_zero-2.ensures, c.is_zero.ensures)
