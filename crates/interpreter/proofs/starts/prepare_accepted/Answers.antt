-- `interpreter::starts::prepare_accepted` meets its contract: an accepted table is well formed.
use mathlib.Core.Path.{sym, ◌∙◌}
use Rattle.interpreter.specs.ClaimLaws.{no-form-refused}
use Rattle.interpreter.proofs.starts.prepare_accepted.Goals as goal

pub prepare_sections-requires-clause-table_value : goal.prepare_sections-requires-clause-table_value
prepare_sections-requires-clause-table_value c = (
  sym c.read_form.ensures
      ∙ c.in_ok-sections.was,
  c.requires.listed_value.0,
  c.requires.listed_value.1,
)

pub prepare_sections-requires-clause-ends_len : goal.prepare_sections-requires-clause-ends_len
prepare_sections-requires-clause-ends_len c = c.requires.ends_len

pub returns-in_err-sections : goal.returns-in_err-sections
returns-in_err-sections c = absurd (no-form-refused _ _ _ c.requires.listed_value.0
    (sym c.read_form.ensures ∙ c.in_err-sections.was))
