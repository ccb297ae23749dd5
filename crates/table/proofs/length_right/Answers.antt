use mathlib.Core.Path.{◌∙◌, sym}
use Rattle.table.specs.Form.{length_right}
use Rattle.table.proofs.length_right.Goals as goal

pub returns-then-four_pairs : goal.returns-then-four_pairs
unfolding length_right
returns-then-four_pairs c = simp (sym c.four_pairs.ensures ∙ c.if-four_pairs.true)

pub returns : goal.returns
unfolding length_right
returns c = simp (sym c.four_pairs.ensures ∙ c.if-four_pairs.false)
