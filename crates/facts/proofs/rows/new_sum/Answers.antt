-- `facts::rows::new_sum` meets its contract.
use borrow.Author.Tests.{eq-eqb, ne_eqb}
use Rattle.facts.proofs.rows.new_sum.Goals as goal

pub returns-then-i-j : goal.returns-then-i-j
returns-then-i-j c = simp (eq-eqb _ _ c.if-i-j.true)

pub returns-then-i-eq16 : goal.returns-then-i-eq16
returns-then-i-eq16 c = simp (ne_eqb _ _ c.if-i-j.false, eq-eqb _ _ c.if-i-eq16.true)

pub returns : goal.returns
returns c = simp (ne_eqb _ _ c.if-i-j.false, ne_eqb _ _ c.if-i-eq16.false)
