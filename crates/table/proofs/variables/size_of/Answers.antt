use borrow.Author.Tests.{eq-eqb, ne_eqb}
use Rattle.table.specs.Variables.{size_of}
use Rattle.table.proofs.variables.size_of.Goals as goal

pub returns-then-w-eq-BIAS : goal.returns-then-w-eq-BIAS
unfolding size_of
returns-then-w-eq-BIAS c = simp (eq-eqb _ _ c.if-w-eq-BIAS.true)

pub returns : goal.returns
unfolding size_of
returns c = simp (c.plain.ensures, ne_eqb _ _ c.if-w-eq-BIAS.false)
