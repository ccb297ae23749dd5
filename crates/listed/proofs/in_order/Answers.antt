-- `listed::in-order` meets its contract.
use borrow.Author.Tests.{eq-eqb, ne_eqb}
use Rattle.listed.specs.ListForm.{in_order}
use Rattle.listed.proofs.in_order.Goals as goal

pub returns-then-e-eq0 : goal.returns-then-e-eq0
unfolding in_order
returns-then-e-eq0 c = rw (eq-eqb _ 0 c.if-e-eq0.true)

pub returns : goal.returns
unfolding in_order
returns c = rw (ne_eqb _ 0 c.if-e-eq0.false) (simp (c.word-2.ensures, c.word.ensures))
