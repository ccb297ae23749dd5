use mathlib.Core.Path.{◌≡◌}
use lib.ListN.{length}
use Rattle.set_runs.specs.Prepared.{AllLaid}
use Rattle.set_runs.proofs.prepare.lay_flows.Given as goal

abbrev pub invariant-loop-n : goal.invariant-loop-n
invariant-loop-n l = AllLaid l.tables l.lengths l.n l.successors × (length l.member ≡ length l.initial.member)
