use Rattle.words.specs.Words.{fields_at}
use Rattle.words.proofs.fields_at.Goals as goal

pub returns : goal.returns
unfolding fields_at
returns c = simp (
  c.word-7.ensures,
  c.word-6.ensures,
  c.word-5.ensures,
  c.word-4.ensures,
  c.word-3.ensures,
  c.word-2.ensures,
  c.word.ensures,
)
