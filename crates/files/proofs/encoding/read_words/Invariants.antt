use Prim.Native.Nat.{◌-◌, ◌*◌, ◌/◌, ◌≤◌, min}
use mathlib.Core.Path.{◌≡◌}
use lib.ListN.{length}
use Rattle.arrays.specs.TabulateLaws.{Filled}
use Rattle.files.specs.Files.{word_at}
use Rattle.files.proofs.encoding.read_words.Given as goal

abbrev pub invariant-loop-i : goal.invariant-loop-i
invariant-loop-i l = Filled l.table l.initial.table (length l.initial.table) (λ n. word_at l.bytes (4 * n)) l.i × (l.i ≤ l.count)
    × (l.count ≡ min (length l.bytes / 4) (length l.initial.table))

abbrev pub decreases-loop-i : goal.decreases-loop-i
decreases-loop-i l = l.count - l.i
