-- `checks::end_value` meets its contract.
use Rattle.checks.proofs.end_value.Goals as goal

pub returns : goal.returns
returns c = simp (c.slot.ensures.value, c.scaled.ensures.value, c.slot-2.ensures.value)
