use Prim.Native.Nat.{◌-◌}
use mathlib.Core.Path.{◌≡◌, refl}
use borrow.Author.Rules.{rules}
use Rattle.arrays.specs.Overwritten.{over_none, over-more}
use Rattle.facts.specs.Words.{whole}
use Rattle.places.proofs.save_rows.Goals as goal

pub loop-i-init : goal.loop-i-init
loop-i-init c = over_none _ _ _

pub loop-i-preserved : goal.loop-i-preserved
loop-i-preserved c = over-more c.loop-i.invariant (search rules) refl

pub returns : goal.returns
returns c = let z : c.loop-i.i ≡ 16 = search rules in
    record { words = rw z at c.loop-i.invariant; whole = whole c.args.rows.each 16 0 (search rules) }
