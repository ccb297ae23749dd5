-- `interpreter::runs::resume` meets its contract.
use native.Mathlib.Omega.{arith}
use Rattle.interpreter.specs.SlotsLaws.{slots-safe, slots_end}
use Rattle.interpreter.proofs.runs.resume.Goals as goal

pub run_slots-outcome-requires-clause-prepared : goal.run_slots-outcome-requires-clause-prepared
run_slots-outcome-requires-clause-prepared c = rw c.load_slots-slots.ensures c.requires.laid.prepared

pub run_slots-outcome-requires-clause-safe_run : goal.run_slots-outcome-requires-clause-safe_run
run_slots-outcome-requires-clause-safe_run c = rw c.load_slots-slots.ensures (slots-safe _ c.requires.laid _ c.args.made _ c.requires.safe_run)

pub store_slots-requires : goal.store_slots-requires
store_slots-requires c = omega (arith, c.requires.laid.few)

pub returns : goal.returns
returns c = slots_end _ c.requires.laid _ _ _ c.requires.safe_run
    (rw c.load_slots-slots.ensures at
    c.run_slots-outcome.ensures) c.store_slots.ensures
