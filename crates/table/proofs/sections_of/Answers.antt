use mathlib.Core.Path.{◌∙◌, sym}
use Rattle.table.specs.Form.{sections_of}
use Rattle.table.proofs.sections_of.Goals as goal

pub returns-then-four_pairs : goal.returns-then-four_pairs
unfolding sections_of
returns-then-four_pairs c = simp (
  c.plain.ensures,
  c.word-then-four_pairs.ensures,
  sym c.four_pairs.ensures ∙ c.if-four_pairs.true,
  c.plain-statements.ensures,
  c.word-3.ensures,
  c.plain-variables.ensures,
  c.word-2.ensures,
  c.plain-objects.ensures,
  c.word.ensures,
)

pub returns : goal.returns
unfolding sections_of
returns c = simp (
  sym c.four_pairs.ensures ∙ c.if-four_pairs.false,
  c.plain-statements.ensures,
  c.word-3.ensures,
  c.plain-variables.ensures,
  c.word-2.ensures,
  c.plain-objects.ensures,
  c.word.ensures,
)
