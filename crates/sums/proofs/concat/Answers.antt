-- `sums::concat` meets its contract.
use native.Mathlib.Omega.{arith}
use borrow.Author.Tests.{le-leb, lt-leb}
use Rattle.sums.specs.Sums.{concatenated}
use Rattle.sums.proofs.concat.Goals as goal

pub returns-then-a-ge-LIMIT : goal.returns-then-a-ge-LIMIT
unfolding concatenated
returns-then-a-ge-LIMIT c = simp (le-leb _ _ c.if-a-ge-LIMIT.true)

pub returns-then-b-ge-LIMIT : goal.returns-then-b-ge-LIMIT
unfolding concatenated
returns-then-b-ge-LIMIT c = simp (lt-leb _ _ c.if-a-ge-LIMIT.false, le-leb _ _ c.if-b-ge-LIMIT.true)

pub returns-then-both-lt-BIAS : goal.returns-then-both-lt-BIAS
unfolding concatenated
returns-then-both-lt-BIAS c = simp (lt-leb _ _ c.if-a-ge-LIMIT.false, lt-leb _ _ c.if-b-ge-LIMIT.false) (omega arith)

pub returns : goal.returns
unfolding concatenated
returns c = simp (lt-leb _ _ c.if-a-ge-LIMIT.false, lt-leb _ _ c.if-b-ge-LIMIT.false) (omega arith)
