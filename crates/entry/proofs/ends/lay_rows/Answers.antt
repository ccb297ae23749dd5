-- `entry::ends::lay_rows` meets its contract.
use Prim.Native.Nat.{◌-◌, ◌/◌, ◌%◌}
use mathlib.Core.Path.{◌≡◌, ap, ◌∙◌}
use native.Mathlib.Omega.{arith}
use borrow.Author.Rules.{rules}
use lib.ListN.{length}
use Rattle.arrays.specs.TabulateLaws.{any-default, filled_none, filled_more, filled-whole, length-under}
use Rattle.rules.specs.declared.Bounds.{Bounds}
use Rattle.entry.specs.Ends.{bounds_number, numbers_of}
use Rattle.entry.proofs.ends.lay_rows.Goals as goal

pub loop-i-init : goal.loop-i-init
unfolding numbers_of
loop-i-init c = filled_none _ _ _ (search rules)

pub bounds-rows-i : goal.bounds-rows-i
unfolding numbers_of
bounds-rows-i c = let n : length c.args.environment.rows ≡ 64 = search (length-under, rules) in omega (arith, c.loop-i-test.true)

pub loop-i-preserved : goal.loop-i-preserved
unfolding numbers_of
loop-i-preserved c = let n : length c.args.environment.rows
    ≡ 64 = search (length-under, rules) in filled_more c.loop-i.invariant (search rules)
    (c.bounds_number.ensures
    ∙ ap (λ (x : Bounds). bounds_number x (c.loop-i.i % 6))
    (any-default c.args.environment.rows (c.loop-i.i / 6) _ _
    (omega (arith, c.loop-i-test.true))))

pub returns : goal.returns
unfolding numbers_of
returns c = filled-whole c.loop-i.invariant c.loop-i-test.false
