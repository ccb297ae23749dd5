-- `parts::span_of` meets its contract.
use Rattle.parts.specs.PartsLaws.{span-made, span-within}
use Rattle.parts.proofs.span_of.Goals as goal

pub returns-clause-value : goal.returns-clause-value
returns-clause-value c = span-made _ _ _ _ _ _ _ _ _ c.start_of-start.ensures.value c.length_of.ensures.value c.min.ensures
    c.min-2.ensures

pub returns-clause-within : goal.returns-clause-within
returns-clause-within c = span-within _ _ _ _ _
    c.start_of-start.ensures.small c.min.ensures c.min-2.ensures
