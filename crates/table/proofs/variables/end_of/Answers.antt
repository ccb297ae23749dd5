use Rattle.table.specs.Variables.{end_of}
use Rattle.table.proofs.variables.end_of.Goals as goal

pub returns : goal.returns
unfolding end_of
returns c = simp (c.index_of.ensures, c.plain.ensures)
