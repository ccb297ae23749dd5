use Rattle.table.specs.Variables.{row_words_at}
use Rattle.table.proofs.variables.row_words_at.Goals as goal

pub returns : goal.returns
unfolding row_words_at
returns c = simp (c.end_words_at-2.ensures, c.end_words_at.ensures)
