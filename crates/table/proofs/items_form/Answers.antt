use borrow.Author.Tests.{lt-ltb, le-ltb}
use Rattle.table.specs.Form.{items_form}
use native.Mathlib.Omega.{arith}
use Rattle.words.specs.SectionsLaws.{limits}
use Rattle.table.proofs.items_form.Goals as goal

pub returns-then-object-sections : goal.returns-then-object-sections
unfolding items_form
returns-then-object-sections c = simp (c.lowest_object-object.ensures, lt-ltb _ _ (rw c.lowest_object-object.ensures at c.if-object-sections.true))

pub returns-then-variable-sections : goal.returns-then-variable-sections
unfolding items_form
returns-then-variable-sections c = simp (
  c.lowest_variable-variable.ensures,
  lt-ltb _ _ (rw c.lowest_variable-variable.ensures at c.if-variable-sections.true),
  le-ltb _ _
      (rw c.lowest_object-object.ensures at c.if-object-sections.false),
)

pub overflow_add-result : goal.overflow_add-result
unfolding items_form
overflow_add-result c = let l = limits _ c.requires in omega (arith, c.if-row-sections.true)

pub returns-then-row-sections : goal.returns-then-row-sections
unfolding items_form
returns-then-row-sections c = simp (
  c.lowest_row-row.ensures,
  lt-ltb _ _ (rw c.lowest_row-row.ensures at c.if-row-sections.true),
  le-ltb _ _ (rw c.lowest_variable-variable.ensures at c.if-variable-sections.false),
  le-ltb _ _ (rw c.lowest_object-object.ensures at
      c.if-object-sections.false),
)

pub returns-then-statement-sections : goal.returns-then-statement-sections
unfolding items_form
returns-then-statement-sections c = simp (
  c.lowest_statement-statement.ensures,
  lt-ltb _ _ (rw c.lowest_statement-statement.ensures at c.if-statement-sections.true),
  le-ltb _ _ (rw c.lowest_row-row.ensures at c.if-row-sections.false),
  le-ltb _ _ (rw c.lowest_variable-variable.ensures at
      c.if-variable-sections.false),
  le-ltb _ _ (rw c.lowest_object-object.ensures at
      c.if-object-sections.false),
)

pub returns : goal.returns
unfolding items_form
returns c = simp (
  le-ltb _ _ (rw c.lowest_statement-statement.ensures at c.if-statement-sections.false),
  le-ltb _ _ (rw c.lowest_row-row.ensures at c.if-row-sections.false),
  le-ltb _ _ (rw c.lowest_variable-variable.ensures at
      c.if-variable-sections.false),
  le-ltb _ _ (rw c.lowest_object-object.ensures at
      c.if-object-sections.false),
)
