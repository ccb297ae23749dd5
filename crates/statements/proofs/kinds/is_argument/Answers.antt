use Rattle.statements.specs.Statements.{is_argument}
use Rattle.statements.proofs.kinds.is_argument.Goals as goal

pub returns : goal.returns
unfolding is_argument
returns c = simp c.is_below.ensures
