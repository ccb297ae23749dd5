use Rattle.table.specs.Form.{statement_reads}
use Rattle.table.proofs.statement_reads.Goals as goal

pub returns : goal.returns
unfolding statement_reads
returns c = simp (c.is_some.ensures, c.read_statement.ensures)
