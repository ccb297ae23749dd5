-- `listed::same_kind` meets its contract.
use mathlib.Core.Path.{refl, ◌∙◌}
use Rattle.listed.specs.ListLaws.{less-right}
use Rattle.listed.proofs.same_kind.Goals as goal

pub returns : goal.returns
returns c = c.condition_right.ensures ∙ less-right _ _ _ refl refl
