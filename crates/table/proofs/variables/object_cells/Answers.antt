use borrow.Author.Tests.{lt-ltb, le-ltb}
use Rattle.table.specs.Variables.{object_cells}
use Rattle.table.proofs.variables.object_cells.Goals as goal

pub returns-then-w-lt-BIAS : goal.returns-then-w-lt-BIAS
unfolding object_cells
returns-then-w-lt-BIAS c = rw (lt-ltb _ _ c.if-w-lt-BIAS.true)

pub returns : goal.returns
unfolding object_cells
returns c = rw (le-ltb _ _ c.if-w-lt-BIAS.false) c.plain.ensures
