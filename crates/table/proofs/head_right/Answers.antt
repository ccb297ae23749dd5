-- `table::head_right` meets its contract.
use mathlib.Core.Bool.{Bool, ◌&&◌}
use mathlib.Core.Path.{ap, ap₂, ◌∙◌}
use Rattle.words.specs.declared.sections.Sections.{Sections}
use Rattle.table.specs.Form.{head_right, directory_right}
use Rattle.table.proofs.head_right.Goals as goal

pub returns : goal.returns
unfolding head_right
returns c = ap₂ (λ (a b : Bool). a && b) c.length_right.ensures
    (c.directory_right.ensures ∙ ap (λ (h : Sections). directory_right c.args.table.now h) c.sections_of.ensures)
