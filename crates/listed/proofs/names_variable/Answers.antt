-- `listed::names_variable` meets its contract.
use Rattle.listed.specs.ListForm.{names_variable}
use Rattle.listed.proofs.names_variable.Goals as goal

pub returns : goal.returns
unfolding names_variable
returns c = simp (c.names_pointer.ensures, c.names_integer.ensures)
