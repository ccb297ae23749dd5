use Prim.Native.Nat.{◌+◌, ◌-◌}
use mathlib.Core.Path.{◌≡◌}
use Rattle.blocks.specs.Layout.{contents}
use Rattle.blocks.proofs.lay_contents.Given as goal

abbrev pub invariant-loop-at : goal.invariant-loop-at
invariant-loop-at l = contents l.count l.table l.sections l.head l.first ≡ contents (l.first + l.count - l.at) l.table l.sections l.head l.at
