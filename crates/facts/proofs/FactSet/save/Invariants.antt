use Rattle.facts.specs.Words.{RowsSaved}
use Rattle.facts.proofs.FactSet.save.Given as goal

abbrev pub invariant-loop-i : goal.invariant-loop-i
invariant-loop-i l = RowsSaved l.initial.words l.at l.self l.i l.words
