use mathlib.Core.Path.{◌∙◌, sym}
use Rattle.conditions.specs.Conditions.{offset_of}
use Rattle.conditions.proofs.offset_of.Goals as goal

pub returns-then-is_zero : goal.returns-then-is_zero
unfolding offset_of
returns-then-is_zero c = simp (sym c.is_zero.ensures ∙ c.if-is_zero.true)

pub returns : goal.returns
unfolding offset_of
returns c = simp (c.literal_value.ensures, sym c.is_zero.ensures ∙ c.if-is_zero.false)
