-- Each turn fills the bounds of one more pointer.
use borrow.Author.Rules.{rules}
use borrow.Author.Tests.{not-false}
use Prim.Native.Nat.{◌-◌}
use native.Mathlib.Omega.{arith}
use Rattle.arrays.specs.TabulateLaws.{filled_none, filled-whole, length-under}
use Rattle.rules.specs.Stored.{bounds_after}
use Rattle.rules.specs.BoundsRules as bounds_rules
use Rattle.bounds.specs.TransferLaws.{source-below}
use Rattle.bounds.specs.BoundsRulesLaws.{all-kept, filled-same, filled-anew}
use Rattle.bounds.proofs.bounds_after.Goals as goal
use Rattle.bounds.proofs.bounds_after.Goals.{else-not-made_same, then-not-made_same}

pub returns-then-keeps_all : goal.returns-then-keeps_all
unfolding bounds_rules.bounds_after
returns-then-keeps_all c = all-kept _ _ (search (length-under, rules)) c.keeps_all.ensures c.if-keeps_all.true

pub offset_bounds-known-from : goal.offset_bounds-known-from
unfolding bounds_rules.bounds_after
offset_bounds-known-from c = omega (arith, c.source_of-from.ensures, source-below c.args.effect c.requires)

pub bounds-known-from : goal.bounds-known-from
unfolding bounds_rules.bounds_after
bounds-known-from c = omega (arith, c.source_of-from.ensures, source-below c.args.effect c.requires)

pub loop-p-init : goal.loop-p-init
unfolding bounds_rules.bounds_after
loop-p-init c = filled_none _ _ _ (search (length-under, rules))

pub loop-p-preserved : goal.loop-p-preserved
unfolding bounds_rules.bounds_after
loop-p-preserved c = elim c.if-not-made_same.branch [
  | then-not-made_same w ↦ rw w.next-is (filled-anew c.args.effect c.loop-p.invariant c.loop-p-test.true (search (length-under, rules))
      c.source_of-from.result c.requires c.source_of-from.ensures w.effect_on.ensures)
  | else-not-made_same w ↦ rw w.next-is (filled-same c.args.effect c.loop-p.invariant c.loop-p-test.true (search (length-under, rules))
      c.changed_by-changed.ensures c.replaced_by-replaced.ensures c.made_same.ensures (not-false _ w.if-not-made_same.false-raw))
]

pub returns : goal.returns
unfolding bounds_rules.bounds_after
returns c = filled-whole c.loop-p.invariant c.loop-p-test.false
