-- `declared::force::same_rows` meets its contract.
use mathlib.Core.Path.{◌∙◌}
use Rattle.declared.specs.ForceLaws.{rows-equal}
use Rattle.declared.proofs.force.same_rows.Goals as goal

pub returns : goal.returns
returns c = c.eq.ensures ∙ rows-equal _ _
