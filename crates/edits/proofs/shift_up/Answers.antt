use Prim.Native.Nat.{◌-◌}
use mathlib.Core.Path.{◌≡◌}
use native.Mathlib.Omega.{arith}
use borrow.Author.Rules.{rules}
use mir.Syntax.{w32}
use mir.Facts.{to_z-of_z}
use lib.IntN.{pos}
use lib.ListN.{get_or}
use Rattle.edits.specs.WrittenLaws.{over-empty, shifted_up}
use Rattle.edits.proofs.shift_up.Goals as goal

pub loop-i-init : goal.loop-i-init
loop-i-init c = (over-empty _ _ _, c.requires.0)

pub loop-i-preserved : goal.loop-i-preserved
loop-i-preserved c = (
  shifted_up c.args.by c.loop-i.invariant.0 (omega (arith, c.loop-i-test.true)) (omega (arith, c.loop-i.auto.i)) c.requires.1
      (omega (arith, c.requires.2, c.loop-i-test.true))
      (to_z-of_z {w = w32} {z = get_or c.loop-i.words (c.loop-i.i - 1 - c.args.by) (pos 0)} (record { sfits = c.words-1.given })),
  omega (arith, c.loop-i-test.true),
)

pub returns : goal.returns
returns c = let z : c.loop-i.i ≡ c.args.first = omega (arith, c.loop-i-test.false, c.loop-i.invariant.1) in rw z at c.loop-i.invariant.0
