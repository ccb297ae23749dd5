-- `set_runs::run_set` meets its contract: too little room, the verdict, or the run.
use mathlib.Core.Path.{sym}
use native.Mathlib.Omega.{arith}
use lib.ListN.{length}
use Rattle.sets.specs.Tables.{tables_in}
use Rattle.interpreter.specs.AloneLaws.{lends}
use Rattle.set_runs.specs.RunLaws.{taken-all}
use Rattle.set_runs.specs.JudgedLaws.{no-ends, no-successors, no_member, member-enough, set-accepted, ran-accepted, ran-refused}
use Rattle.set_runs.proofs.run_set.Goals as goal

pub returns-then-ends-lt4096 : goal.returns-then-ends-lt4096
returns-then-ends-lt4096 c = no-ends (tables_in c.args.tables.now
    c.args.lengths.now)
    (lends c.args.directory.now
    c.args.cells.now
    c.args.values.now
    c.args.origins.now)
    c.args.limit
    (length c.args.member.now)
    (length c.args.ends.now)
    (length c.args.successors.now) c.if-ends-lt4096.true

pub returns-then-successors-lt16384 : goal.returns-then-successors-lt16384
returns-then-successors-lt16384 c = no-successors (tables_in c.args.tables.now
    c.args.lengths.now)
    (lends c.args.directory.now
    c.args.cells.now
    c.args.values.now
    c.args.origins.now)
    c.args.limit
    (length c.args.member.now)
    (length c.args.ends.now)
    (length c.args.successors.now) c.if-successors-lt16384.true

pub returns-in_default : goal.returns-in_default
returns-in_default c = no_member (tables_in
    c.args.tables.now
    c.args.lengths.now)
    (lends c.args.directory.now
    c.args.cells.now
    c.args.values.now
    c.args.origins.now)
    c.args.limit
    (length c.args.member.now)
    (length c.args.ends.now)
    (length c.args.successors.now)
    c.if-ends-lt4096.false c.if-successors-lt16384.false
    c.check_set-checked.ensures c.in_default.is

pub slice_bounds-run_accepted-end-in-Ok : goal.slice_bounds-run_accepted-end-in-Ok
slice_bounds-run_accepted-end-in-Ok c = taken-all 4096 c.args.ends.now
    c.if-ends-lt4096.false

pub slice_bounds-run_accepted-end-in-Ok-3 : goal.slice_bounds-run_accepted-end-in-Ok-3
slice_bounds-run_accepted-end-in-Ok-3 c = taken-all 16384
    c.args.successors.now
    c.if-successors-lt16384.false

pub run_accepted-requires : goal.run_accepted-requires
run_accepted-requires c = (
  set-accepted (tables_in
      c.args.tables.now
      c.args.lengths.now)
      (lends c.args.directory.now
      c.args.cells.now
      c.args.values.now
      c.args.origins.now)
      c.args.limit
      (length c.args.member.now)
      (length c.args.ends.now)
      (length c.args.successors.now)
      c.if-ends-lt4096.false
      c.if-successors-lt16384.false
      c.check_set-checked.ensures
      c.in-Some.is
      c.in-Ok.is,
  omega (
    arith,
    member-enough
        (tables_in c.args.tables.now
        c.args.lengths.now)
        (lends c.args.directory.now
        c.args.cells.now
        c.args.values.now
        c.args.origins.now)
        c.args.limit
        (length c.args.member.now)
        (length c.args.ends.now)
        (length c.args.successors.now)
        c.if-ends-lt4096.false
        c.if-successors-lt16384.false
        c.check_set-checked.ensures
        c.in-Some.is,
    c.check_set-checked.auto.member,
  ),
  sym (taken-all 4096 c.args.ends.now
      c.if-ends-lt4096.false),
  sym (taken-all 16384 c.args.successors.now
      c.if-successors-lt16384.false),
)

pub returns-in-Err : goal.returns-in-Err
returns-in-Err c = ran-refused (tables_in
    c.args.tables.now c.args.lengths.now) (lends
    c.args.directory.now
    c.args.cells.now c.args.values.now c.args.origins.now)
    c.args.limit (length c.args.member.now) (length
    c.args.ends.now) (length
    c.args.successors.now) c.if-ends-lt4096.false
    c.if-successors-lt16384.false
    c.check_set-checked.ensures c.in-Some.is
    c.in-Err.is

pub returns-in-Ok : goal.returns-in-Ok
returns-in-Ok c = ran-accepted (tables_in
    c.args.tables.now
    c.args.lengths.now)
    (lends c.args.directory.now
    c.args.cells.now
    c.args.values.now
    c.args.origins.now)
    c.args.limit
    (length c.args.member.now)
    (length c.args.ends.now)
    (length c.args.successors.now)
    c.if-ends-lt4096.false
    c.if-successors-lt16384.false
    c.check_set-checked.ensures
    c.in-Some.is
    c.in-Ok.is
    c.run_accepted.ensures
