-- `steps::branch` meets its contract.
use mathlib.Core.Path.{sym, ◌∙◌}
use Rattle.steps.proofs.branch.Goals as goal

pub returns-then-condition_holds : goal.returns-then-condition_holds
returns-then-condition_holds c = simp (sym c.condition_holds.ensures ∙ c.if-condition_holds.true)

pub returns : goal.returns
returns c = simp (sym c.condition_holds.ensures ∙ c.if-condition_holds.false)
