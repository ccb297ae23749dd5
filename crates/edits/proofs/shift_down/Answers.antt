use Prim.Native.Nat.{◌+◌, ◌-◌}
use mathlib.Core.Path.{◌≡◌}
use native.Mathlib.Omega.{arith}
use borrow.Author.Rules.{rules}
use mir.Syntax.{w32}
use mir.Facts.{to_z-of_z}
use lib.IntN.{pos}
use lib.ListN.{get_or}
use Rattle.edits.specs.EditLaws.{over-start, over-at}
use Rattle.edits.specs.WrittenLaws.{shifted_down}
use Rattle.edits.proofs.shift_down.Goals as goal

pub loop-i-init : goal.loop-i-init
loop-i-init c = over-start _ _ _

pub loop-i-preserved : goal.loop-i-preserved
loop-i-preserved c = over-at c.loop-i.invariant (search rules) (omega (arith, c.requires.1, c.loop-i-test.true))
    (shifted_down c.args.by c.loop-i.invariant (search rules)
    (to_z-of_z {w = w32} {z = get_or c.loop-i.words (c.loop-i.i + c.args.by) (pos 0)} (record { sfits = c.words-1.given })))

pub returns : goal.returns
returns c = let z : c.loop-i.i ≡ c.args.end = search rules in rw z at c.loop-i.invariant
