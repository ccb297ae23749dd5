use mathlib.Core.Path.{sym, ◌∙◌}
use borrow.Author.Rules.{rules}
use Rattle.edits.specs.EditLaws.{landing-past, landing-none, landing-next}
use Rattle.edits.proofs.land.Goals as goal

pub returns-then-at-to : goal.returns-then-at-to
returns-then-at-to c = sym (c.loop-left.invariant ∙ landing-past _ _ _ _ _ c.if-at-to.true)

pub loop-left-preserved : goal.loop-left-preserved
loop-left-preserved c = c.loop-left.invariant ∙ landing-next _ _ _ _ _ _ c.loop-left-test.true (search rules) c.span-at.ensures.0

pub returns : goal.returns
returns c = sym (c.loop-left.invariant ∙ landing-none _ _ _ _ _ c.loop-left-test.false)
