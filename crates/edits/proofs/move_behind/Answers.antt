use Prim.Native.Nat.{ℕ, ◌-◌}
use mathlib.Core.Path.{ap}
use native.Mathlib.Omega.{arith}
use lib.IntN.{pos}
use lib.ListN.{get_or}
use Rattle.edits.specs.WrittenLaws.{over-alike}
use Rattle.edits.proofs.move_behind.Goals as goal

pub returns-then-added-removed : goal.returns-then-added-removed
returns-then-added-removed c = over-alike c.shift_up.ensures
    (λ i. ap (λ (n : ℕ). get_or c.args.words.now n (pos 0)) (omega (arith, c.if-added-removed.true, c.requires.3)))

pub returns-else-added-removed : goal.returns-else-added-removed
returns-else-added-removed c = over-alike c.shift_down.ensures
    (λ i. ap (λ (n : ℕ). get_or c.args.words.now n (pos 0)) (omega (arith, c.if-added-removed.false)))
