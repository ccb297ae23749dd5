-- `steps::simple::address_of` meets its contract.
use Rattle.checks.specs.CheckLaws.{size-in}
use Rattle.steps.proofs.simple.address_of.Goals as goal

pub returns-clause-value : goal.returns-clause-value
returns-clause-value c = rw (size-in _ _ c.requires.0)
    (simp (c.slot.ensures.value, c.scaled.ensures.value, c.size_in.ensures, c.slot-2.ensures.value))
