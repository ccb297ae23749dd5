use mathlib.Core.Path.{sym, ◌∙◌}
use Rattle.rules.specs.RuleLaws.{same-rows}
use Rattle.rewalks.specs.Walking.{forced-same}
use Rattle.rewalks.proofs.walking.force_after.Goals as goal

pub returns-then-same_rows : goal.returns-then-same_rows
returns-then-same_rows c = forced-same c.requires (same-rows _ _ (sym c.same_rows.ensures ∙ c.if-same_rows.true))

pub returns : goal.returns
returns c = c.force_of.ensures
