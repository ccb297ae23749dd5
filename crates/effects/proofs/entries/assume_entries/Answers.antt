-- The invariant: what is left of the entries, from the facts now, is the whole.
use native.Mathlib.Omega.{arith}
use Rattle.effects.specs.EntryLaws.{assumed-none, assumed-more, assumed-all}
use Rattle.effects.proofs.entries.assume_entries.Goals as goal

pub loop-e-init : goal.loop-e-init
loop-e-init c = assumed-none _ _ _ _

pub assume_entry-facts-requires : goal.assume_entry-facts-requires
assume_entry-facts-requires c = (
  omega (arith, c.loop-e-test.true, c.entry_count-e-end.ensures, c.requires.0),
  c.requires.1,
)

pub loop-e-preserved : goal.loop-e-preserved
loop-e-preserved c = assumed-more c.loop-e.invariant c.loop-e-test.true c.assume_entry-facts.ensures

pub returns : goal.returns
returns c = assumed-all c.loop-e.invariant c.loop-e-test.false c.entry_count-e-end.ensures
