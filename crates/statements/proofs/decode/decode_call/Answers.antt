-- `statements::decode::decode_call` meets its contract.
use Rattle.words.specs.Words.{fields_at}
use Rattle.statements.specs.Decode.{decoded_call}
use Rattle.statements.proofs.decode.decode_call.Goals as goal

pub returns : goal.returns
unfolding decoded_call fields_at
returns c = simp (
  c.word_within.ensures,
  c.literal_value.ensures,
  c.word_within-2.ensures,
  c.decode_index.ensures,
  c.word_within-3.ensures,
  c.decode_index-2.ensures,
  c.word_within-4.ensures,
  c.decode_index-3.ensures,
  c.word_within-5.ensures,
  c.decode_index-4.ensures,
  c.word_within-6.ensures,
  c.decode_index-5.ensures,
)
