use Rattle.rules.specs.Calls.{last_integer}
use Rattle.declared.proofs.calls.last_integer.Goals as goal

pub returns : goal.returns
unfolding last_integer
returns c = simp (c.is_pointer.ensures, c.saturating_sub.ensures)
