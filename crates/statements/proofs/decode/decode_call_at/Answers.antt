-- `statements::decode::decode_call_at` meets its contract.
use Rattle.statements.specs.Decode.{decoded_call_at}
use Rattle.statements.proofs.decode.decode_call_at.Goals as goal

pub returns : goal.returns
unfolding decoded_call_at
returns c = rw c.record_start.ensures at c.decode_call.ensures
