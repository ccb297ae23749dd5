use Rattle.table.specs.Form.{variable_reads}
use Rattle.table.proofs.variable_reads.Goals as goal

pub returns : goal.returns
unfolding variable_reads
returns c = simp (c.is_some.ensures, c.read_variable.ensures)
