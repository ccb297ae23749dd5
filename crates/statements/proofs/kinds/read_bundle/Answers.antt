use Rattle.statements.specs.Statements.{bundle_read}
use Rattle.statements.proofs.kinds.read_bundle.Goals as goal

pub returns-then-plain-unused_from : goal.returns-then-plain-unused_from
unfolding bundle_read
returns-then-plain-unused_from c = simp (c.plain-then-plain-unused_from.ensures, simp (c.unused_from.ensures, c.plain.ensures) at c.if-plain-unused_from.true)

pub returns : goal.returns
unfolding bundle_read
returns c = simp (simp (c.unused_from.ensures, c.plain.ensures) at c.if-plain-unused_from.false)
