-- `statements::decode::decode_offset` meets its contract.
use mathlib.Core.Path.{◌∙◌, sym}
use Rattle.statements.specs.Decode.{decoded_offset}
use Rattle.statements.proofs.decode.decode_offset.Goals as goal

pub returns-then-is_zero : goal.returns-then-is_zero
unfolding decoded_offset
returns-then-is_zero c = simp (sym c.is_zero.ensures ∙ c.if-is_zero.true)

pub returns : goal.returns
unfolding decoded_offset
returns c = simp (c.literal_value.ensures, sym c.is_zero.ensures ∙ c.if-is_zero.false)
