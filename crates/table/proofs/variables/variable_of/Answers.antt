use mathlib.Core.Path.{◌∙◌, sym}
use Rattle.table.specs.Variables.{variable_of}
use Rattle.table.proofs.variables.variable_of.Goals as goal

pub returns-then-integer_record : goal.returns-then-integer_record
unfolding variable_of
returns-then-integer_record c = simp (sym c.integer_record.ensures ∙ c.if-integer_record.true)

pub returns-then-pointer_record : goal.returns-then-pointer_record
unfolding variable_of
returns-then-pointer_record c = simp (
  c.end_of-then-pointer_record.ensures,
  c.end_of.ensures,
  c.size_of.ensures,
  sym c.pointer_record.ensures ∙ c.if-pointer_record.true,
  sym c.integer_record.ensures ∙ c.if-integer_record.false,
)

pub returns : goal.returns
unfolding variable_of
returns c = simp (
  sym c.pointer_record.ensures ∙ c.if-pointer_record.false,
  sym c.integer_record.ensures
      ∙ c.if-integer_record.false,
)
