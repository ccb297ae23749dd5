-- `statements::decode::decode_statement` meets its contract.
use Rattle.statements.specs.Decode.{decoded_at}
use Rattle.statements.proofs.decode.decode_statement.Goals as goal

pub returns : goal.returns
unfolding decoded_at
returns c = rw c.record_start.ensures at c.decode_kind.ensures
