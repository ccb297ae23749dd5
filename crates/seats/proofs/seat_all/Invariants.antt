use Rattle.seats.specs.Seats.{ReadyTo}
use Rattle.seats.proofs.seat_all.Given as goal

abbrev pub invariant-loop-r : goal.invariant-loop-r
invariant-loop-r l = ReadyTo (record {
  tables = l.tables;
  listed = l.listed;
  directories = l.directories;
  cells = l.cells;
  values = l.values;
  origins = l.origins;
  lengths = l.lengths;
}) l.r
    l.seats l.ends l.successors
