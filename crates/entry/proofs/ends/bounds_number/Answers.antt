-- `entry::ends::bounds_number` meets its contract.
use borrow.Author.Tests.{lt-ltb, le-ltb}
use Rattle.entry.specs.Ends.{bounds_number}
use Rattle.entry.proofs.ends.bounds_number.Goals as goal

pub returns-then-j-lt3 : goal.returns-then-j-lt3
unfolding bounds_number
returns-then-j-lt3 c = rw (lt-ltb _ _ c.if-j-lt3.true) (rw c.end_of.ensures at c.end_number.ensures)

pub returns : goal.returns
unfolding bounds_number
returns c = rw (le-ltb _ _ c.if-j-lt3.false) (rw c.end_of-2.ensures at c.end_number-2.ensures)
