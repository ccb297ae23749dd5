-- `statements::decode::decode_right` meets its contract.
use mathlib.Core.Path.{◌∙◌, sym}
use Rattle.statements.specs.Decode.{decoded_right}
use Rattle.statements.proofs.decode.decode_right.Goals as goal

pub returns-then-is_zero : goal.returns-then-is_zero
unfolding decoded_right
returns-then-is_zero c = simp (c.unsigned.ensures, sym c.is_zero.ensures ∙ c.if-is_zero.true)

pub returns : goal.returns
unfolding decoded_right
returns c = simp (sym c.is_zero.ensures ∙ c.if-is_zero.false)
