use mathlib.Core.Path.{◌∙◌, sym}
use Rattle.conditions.specs.Conditions.{right_of}
use Rattle.conditions.proofs.right_of.Goals as goal

pub returns-then-is_zero : goal.returns-then-is_zero
unfolding right_of
returns-then-is_zero c = simp (c.plain.ensures, sym c.is_zero.ensures ∙ c.if-is_zero.true)

pub returns : goal.returns
unfolding right_of
returns c = simp (sym c.is_zero.ensures ∙ c.if-is_zero.false)
