-- `entry::entry_bounds::ends_by` meets its contract.
use mathlib.Core.Path.{sym}
use native.Mathlib.Omega.{arith}
use borrow.Author.Tests.{lt-leb}
use Rattle.machine.specs.Machine.{end_value}
use Rattle.entry.proofs.entry_bounds.ends_by.Goals as goal

pub returns-then-e-ge-LARGE : goal.returns-then-e-ge-LARGE
returns-then-e-ge-LARGE c = sym
    (lt-leb (end_value c.args.values.now c.args.size c.args.e) c.args.high
    (omega (arith, c.if-e-ge-LARGE.true, c.requires.0)))

pub returns : goal.returns
returns c = rw (
  c.value_at.ensures.value,
  c.scaled.ensures.value,
  c.value_at-2.ensures.value,
)
