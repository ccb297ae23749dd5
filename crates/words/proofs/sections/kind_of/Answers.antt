use borrow.Author.Tests.{eq-eqb, ne_eqb}
use Rattle.words.specs.Sections.{kind_of}
use Rattle.words.proofs.sections.kind_of.Goals as goal

pub returns-then-w-eq-BIAS : goal.returns-then-w-eq-BIAS
unfolding kind_of
returns-then-w-eq-BIAS c = rw (eq-eqb _ _ c.if-w-eq-BIAS.true)

pub returns-then-w : goal.returns-then-w
unfolding kind_of
returns-then-w c = rw (ne_eqb _ _ c.if-w-eq-BIAS.false, eq-eqb _ _ c.if-w.true)

pub returns-then-w-2 : goal.returns-then-w-2
unfolding kind_of
returns-then-w-2 c = rw (ne_eqb _ _ c.if-w-eq-BIAS.false, ne_eqb _ _ c.if-w.false, eq-eqb _ _ c.if-w-2.true)

pub returns : goal.returns
unfolding kind_of
returns c = rw (ne_eqb _ _ c.if-w-eq-BIAS.false, ne_eqb _ _ c.if-w.false, ne_eqb _ _ c.if-w-2.false)
