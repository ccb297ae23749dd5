use Rattle.table.specs.Variables.{end_words_at}
use Rattle.table.proofs.variables.end_words_at.Goals as goal

pub returns : goal.returns
unfolding end_words_at
returns c = simp (c.word-3.ensures, c.word-2.ensures, c.word.ensures)
