-- The invariant: the pointers below p are shown.
use borrow.Author.Rules.{rules}
use Prim.Native.Nat.{◌-◌}
use native.Mathlib.Omega.{arith}
use mathlib.Core.Path.{◌∙◌}
use Rattle.arrays.specs.TabulateLaws.{length-under}
use Rattle.bounds.specs.TransferLaws.{source-below, effect-known}
use Rattle.declared.specs.ShownLaws.{passed_none, passed-more, passed-missed, passed-all, asked-shown, asked-missed}
use Rattle.declared.specs.UntouchedLaws.{unasked-alone}
use Rattle.declared.proofs.check_effect.Goals as goal
use Rattle.declared.proofs.check_effect.Goals.{else-environment-p, then-environment-p+else-not-bounds_shown}

pub offset_bounds-environment-from : goal.offset_bounds-environment-from
offset_bounds-environment-from c = omega (arith, c.source_of-from.ensures, source-below c.args.effect c.requires)

pub bounds-environment-from : goal.bounds-environment-from
bounds-environment-from c = omega (arith, c.source_of-from.ensures, source-below c.args.effect c.requires)

pub loop-p-init : goal.loop-p-init
loop-p-init c = passed_none _ _ _

pub returns-then-not-bounds_shown : goal.returns-then-not-bounds_shown
returns-then-not-bounds_shown c = c.not_shown.ensures ∙ passed-missed c.loop-p.invariant _
    c.loop-p-test.true
    (asked-missed _ _ _ _ (search (length-under, rules))
    (effect-known _ _ _ c.loop-p-test.true (search (length-under, rules))
    c.requires
    c.source_of-from.ensures
    c.effect_on-known.ensures)
    c.bounds_shown.ensures c.leaves_alone.result c.if-environment-p.true
    c.if-not-bounds_shown.true-raw)

pub loop-p-preserved : goal.loop-p-preserved
loop-p-preserved c = passed-more c.loop-p.invariant c.loop-p-test.true
    (elim c.if-environment-p.branch [
      | then-environment-p+else-not-bounds_shown w ↦ asked-shown _ _ _ _ (search (length-under, rules))
          (effect-known _ _ _ c.loop-p-test.true (search (length-under, rules))
          c.requires c.source_of-from.ensures
          w.effect_on-known.ensures)
          w.bounds_shown.ensures w.if-not-bounds_shown.false-raw
      | else-environment-p w ↦ unasked-alone _ _ _ _ c.loop-p-test.true (search (length-under, rules)) c.leaves_alone.ensures
          w.if-environment-p.false
    ])

pub returns : goal.returns
returns c = passed-all c.loop-p.invariant _ c.loop-p-test.false
