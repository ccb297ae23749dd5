use Prim.Native.Nat.{◌*◌, ◌^◌, ◌≤◌}
use mathlib.Core.Path.{◌≡◌}
use Rattle.parts.specs.Parts.{start_at}
use Rattle.parts.proofs.start_of.Given as goal

abbrev pub invariant-loop-i : goal.invariant-loop-i
invariant-loop-i l = (l.start ≡ start_at l.lengths l.kinds l.kind l.i) × (l.start ≤ l.i * 2 ^ 32)
