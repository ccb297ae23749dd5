use Prim.Native.Nat.{◌+◌, ◌-◌}
use mathlib.Core.Path.{◌≡◌}
use lib.ListN.{length}
use Rattle.blocks.specs.Tree.{simples}
use Rattle.blocks.proofs.flow.count_simple.Given as goal

abbrev pub invariant-loop-at : goal.invariant-loop-at
invariant-loop-at l = length (simples l.count l.table l.sections l.first)
    ≡ (l.at - l.first) + length (simples (l.first + l.count - l.at) l.table l.sections l.at)
