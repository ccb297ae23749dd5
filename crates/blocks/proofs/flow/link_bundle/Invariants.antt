use Prim.Native.Nat.{◌-◌}
use mathlib.Core.Path.{◌≡◌}
use lib.ListN.{length}
use Rattle.blocks.specs.Flow.{line}
use Rattle.blocks.specs.Written.{written}
use Rattle.blocks.proofs.flow.link_bundle.Given as goal

abbrev pub invariant-loop-at : goal.invariant-loop-at
invariant-loop-at l = (written (line l.first l.count l.after) l.initial.entries ≡ written (line l.at (l.end - l.at) l.after) l.entries)
    × (length l.entries ≡ length l.initial.entries)
