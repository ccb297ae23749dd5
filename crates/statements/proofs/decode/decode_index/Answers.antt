-- `statements::decode::decode_index` meets its contract.
use borrow.Author.Tests.{eq-eqb, ne_eqb}
use Rattle.statements.specs.Decode.{decoded_index}
use Rattle.statements.proofs.decode.decode_index.Goals as goal

pub returns-then-w : goal.returns-then-w
unfolding decoded_index
returns-then-w c = simp (eq-eqb _ _ c.if-w.true)

pub returns : goal.returns
unfolding decoded_index
returns c = simp (c.unsigned.ensures, ne_eqb _ _ c.if-w.false)
