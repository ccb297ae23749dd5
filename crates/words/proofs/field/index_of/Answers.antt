use borrow.Author.Tests.{eq-eqb, ne_eqb}
use Rattle.words.specs.Fields.{index_of}
use Rattle.words.proofs.field.index_of.Goals as goal

pub returns-then-w : goal.returns-then-w
unfolding index_of
returns-then-w c = simp (eq-eqb _ _ c.if-w.true)

pub returns : goal.returns
unfolding index_of
returns c = simp (c.plain.ensures, ne_eqb _ _ c.if-w.false)
