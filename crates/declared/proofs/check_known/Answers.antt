-- The invariant: the pointers below p are shown.
use borrow.Author.Rules.{rules}
use Prim.Native.Nat.{◌-◌}
use mathlib.Core.Path.{◌≡◌, ◌∙◌}
use Rattle.arrays.specs.TabulateLaws.{length-under}
use Rattle.rules.specs.BoundsRules.{known}
use Rattle.bounds.specs.StaysLaws.{stored, stored-known}
use Rattle.declared.specs.ShownLaws.{passed_none, passed-more, passed-missed, passed-all, unasked, asked-shown, asked-missed}
use Rattle.declared.proofs.check_known.Goals as goal
use Rattle.declared.proofs.check_known.Goals.{else-environment-p, then-environment-p+else-not-bounds_shown}
use Rattle.declared.proofs.check_known.Goals.{After-own-1}

-- What is read are the pointer's known bounds.
own-known : (d : After-own-1) → stored d.args.known.each d.loop-p.p
    ≡ known d.args.known.each d.loop-p.p
own-known d = stored-known d.args.known.each d.loop-p.p (search (length-under, rules))

pub loop-p-init : goal.loop-p-init
loop-p-init c = passed_none _ _ _

pub returns-then-not-bounds_shown : goal.returns-then-not-bounds_shown
returns-then-not-bounds_shown c = c.not_shown.ensures ∙ passed-missed c.loop-p.invariant _
    c.loop-p-test.true
    (asked-missed _ _ _ _ (search (length-under, rules)) (own-known (goal.at.returns-then-not-bounds_shown c).After-own-1)
    c.bounds_shown.ensures c.same_bounds.result c.if-environment-p.true
    c.if-not-bounds_shown.true-raw)

pub loop-p-preserved : goal.loop-p-preserved
loop-p-preserved c = passed-more c.loop-p.invariant c.loop-p-test.true
    (elim c.if-environment-p.branch [
      | then-environment-p+else-not-bounds_shown w ↦ asked-shown _ _ _ _ (search (length-under, rules)) (own-known (goal.at.loop-p-preserved c).After-own-1)
          w.bounds_shown.ensures w.if-not-bounds_shown.false-raw
      | else-environment-p w ↦ unasked _ _ _ _ (search (length-under, rules)) (own-known (goal.at.loop-p-preserved c).After-own-1) c.same_bounds.ensures
          w.if-environment-p.false
    ])

pub returns : goal.returns
returns c = passed-all c.loop-p.invariant _ c.loop-p-test.false
