use Rattle.table.specs.Variables.{variable_words_at}
use Rattle.table.proofs.variables.variable_words_at.Goals as goal

pub returns : goal.returns
unfolding variable_words_at
returns c = simp (c.end_words_at-2.ensures, c.end_words_at.ensures, c.word-2.ensures, c.word.ensures)
