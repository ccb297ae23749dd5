use Rattle.conditions.specs.Conditions.{beside_literal}
use Rattle.conditions.proofs.beside_literal.Goals as goal

pub returns : goal.returns
unfolding beside_literal
returns c = simp (c.is_zero.ensures, c.names_pointer.ensures, c.names_integer.ensures)
