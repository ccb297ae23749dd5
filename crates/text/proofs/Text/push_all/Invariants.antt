use Prim.Native.Nat.{◌+◌}
use mathlib.Core.Path.{◌≡◌}
use lib.ListN.{take}
use Rattle.text.specs.Text.{text_of, Grown}
use Rattle.text.proofs.Text.push_all.Given as goal

abbrev pub invariant-loop-b : goal.invariant-loop-b
invariant-loop-b l = Grown (text_of l.initial.text) (take l.b-index l.more) l.initial.text.len l.text
    × (l.text.len ≡ l.initial.text.len + l.b-index)
