use mathlib.Core.Path.{◌≡◌}
use Rattle.interpreter.specs.Marks.{marks}
use Rattle.interpreter.proofs.starts.mark_reported.Given as goal

abbrev pub invariant-loop-at : goal.invariant-loop-at
invariant-loop-at l = l.successors ≡ marks l.report.words l.at l.initial.successors
