-- `statements::decode::decode_condition` meets its contract.
use Rattle.words.specs.Words.{fields_at}
use Rattle.statements.specs.Decode.{decoded_condition}
use Rattle.statements.proofs.decode.decode_condition.Goals as goal

pub returns : goal.returns
unfolding decoded_condition fields_at
returns c = simp (
  c.unsigned_at.ensures,
  c.unsigned_at-2.ensures,
  c.word_within.ensures,
  c.word_within-2.ensures,
  c.decode_right.ensures,
  c.word_within-3.ensures,
  c.word_within-4.ensures,
  c.decode_offset.ensures,
)
