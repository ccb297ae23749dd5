use Rattle.effects.specs.EntryLaws.{Assumed}
use Rattle.effects.proofs.entries.assume_entries.Given as goal

abbrev pub invariant-loop-e : goal.invariant-loop-e
invariant-loop-e l = Assumed l.listed l.at l.e-end l.initial.facts l.e l.facts
