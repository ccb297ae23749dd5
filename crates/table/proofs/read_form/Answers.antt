use mathlib.Core.Path.{◌∙◌, sym}
use Rattle.table.specs.Form.{form_of}
use Rattle.table.specs.FormLaws.{directory-limits}
use Rattle.table.proofs.read_form.Goals as goal

pub returns-then-not-length_right : goal.returns-then-not-length_right
unfolding form_of
returns-then-not-length_right c = simp (sym c.length_right.ensures ∙ c.if-not-length_right.true)

pub returns-then-not-directory_right : goal.returns-then-not-directory_right
unfolding form_of
returns-then-not-directory_right c = simp (
  sym c.length_right.ensures
      ∙ c.if-not-length_right.false,
  sym (rw c.sections_of-sections.ensures at c.directory_right.ensures)
      ∙ c.if-not-directory_right.true,
)

pub items_form-requires : goal.items_form-requires
unfolding form_of
items_form-requires c = directory-limits _ _ (sym c.directory_right.ensures ∙ c.if-not-directory_right.false)

pub returns : goal.returns
unfolding form_of
returns c = simp (
  sym c.length_right.ensures
      ∙ c.if-not-length_right.false,
  sym
      (rw c.sections_of-sections.ensures at c.directory_right.ensures) ∙ c.if-not-directory_right.false,
)
    (rw c.sections_of-sections.ensures at c.items_form.ensures)
