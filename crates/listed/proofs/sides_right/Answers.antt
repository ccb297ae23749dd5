-- `listed::sides_right` meets its contract.
use Rattle.listed.specs.ListForm.{sides_right}
use Rattle.listed.proofs.sides_right.Goals as goal

pub returns : goal.returns
unfolding sides_right
returns c = simp (c.names_variable-2.ensures, c.names_variable.ensures, c.same_kind.ensures)
