use mathlib.Core.Path.{sym, ◌∙◌}
use Rattle.editor.specs.CallLaws.{start-form}
use Rattle.editor.proofs.start.Goals as goal

pub start_walk-requires : goal.start_walk-requires
start_walk-requires c = sym c.read_form-form.ensures ∙ c.in-Ok.is

pub returns-in-Err : goal.returns-in-Err
returns-in-Err c = start-form _ _ _ c.read_form-form.ensures c.in-Err.is c.refuse.ensures
