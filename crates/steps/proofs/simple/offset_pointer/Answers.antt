-- `steps::simple::offset_pointer` meets its contract.
use Rattle.steps.specs.AdvanceLaws.{assigns-copy, assigns-offset}
use Rattle.steps.proofs.simple.offset_pointer.Goals as goal

pub returns-then-constant-eq-BIAS : goal.returns-then-constant-eq-BIAS
returns-then-constant-eq-BIAS c = assigns-copy _ _ _ _ _ _ c.if-constant-eq-BIAS.true

pub returns : goal.returns
returns c = assigns-offset _ _ _ _ _ _ _ _ _ c.if-constant-eq-BIAS.false c.from-base.ensures
    c.assign_pointer.ensures
