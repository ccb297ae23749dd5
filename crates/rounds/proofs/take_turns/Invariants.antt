use Rattle.rounds.specs.Standing.{Looping}
use Rattle.rounds.proofs.take_turns.Given as goal

abbrev pub invariant-loop-taken : goal.invariant-loop-taken
invariant-loop-taken l = Looping (record {
  tables = l.tables;
  listed = l.listed;
  directories = l.directories;
  cells = l.initial.cells;
  values = l.initial.values;
  origins = l.origins;
  lengths = l.lengths;
})
    l.quantum l.total l._taken l.next l.left l.idle l.seats l.ends l.values l.cells
