-- `declared::is_access` meets its contract.
use Rattle.declared.specs.Shown.{is_access}
use Rattle.declared.proofs.is_access.Goals as goal

pub returns : goal.returns
unfolding is_access
returns c = simp (c.is_some.ensures, c.access_of.ensures)
