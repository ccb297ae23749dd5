use Rattle.table.specs.Form.{row_reads}
use Rattle.table.proofs.row_reads.Goals as goal

pub returns : goal.returns
unfolding row_reads
returns c = simp (c.is_some.ensures, c.read_row.ensures)
