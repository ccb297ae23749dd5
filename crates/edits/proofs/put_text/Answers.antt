use Prim.Native.Nat.{◌-◌}
use mathlib.Core.Path.{◌≡◌, ◌∙◌}
use native.Mathlib.Omega.{arith}
use borrow.Author.Rules.{rules}
use mir.Syntax.{w32}
use mir.Facts.{to_z-of_z}
use Rattle.arrays.specs.Overwritten.{over_none, over-more}
use Rattle.edits.proofs.put_text.Goals as goal

pub loop-i-init : goal.loop-i-init
loop-i-init c = over_none _ _ _

pub loop-i-preserved : goal.loop-i-preserved
loop-i-preserved c = over-more c.loop-i.invariant (omega (arith, c.requires, c.loop-i-test.true))
    (to_z-of_z {w = w32} {z = c.signed_word.result} (record { sfits = c.signed_word.type_inv }) ∙ c.signed_word.ensures)

pub returns : goal.returns
returns c = let z : c.loop-i.i ≡ c.args.count = search rules in rw z at c.loop-i.invariant
