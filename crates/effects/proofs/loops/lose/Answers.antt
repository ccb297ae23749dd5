-- `effects::loops::lose` meets its contract.
use mathlib.Core.Path.{◌∙◌}
use Rattle.effects.specs.MarkLaws.{loop-facts}
use Rattle.effects.proofs.loops.lose.Goals as goal

pub returns : goal.returns
returns c = c.drop_marked.ensures ∙ loop-facts _ _ _ c.mark_targets.ensures
