use Rattle.words.specs.Words.{fields_at}
use Rattle.words.proofs.fields_within.Goals as goal

pub returns : goal.returns
unfolding fields_at
returns c = simp (
  c.word_within.ensures,
  c.word_within-2.ensures,
  c.word_within-3.ensures,
  c.word_within-4.ensures,
  c.word_within-5.ensures,
  c.word_within-6.ensures,
  c.word_within-7.ensures,
)
