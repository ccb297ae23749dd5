use mathlib.Core.Path.{◌≡◌}
use lib.ListN.{length}
use Rattle.steps.specs.Bare.{copied}
use Rattle.steps.proofs.simple.declare.Given as goal

abbrev pub invariant-loop-j : goal.invariant-loop-j
invariant-loop-j l = (l.ends ≡ copied l.j l.pointer l.row l.initial.ends) × (length l.ends ≡ 512)
