-- `set_runs::lent::part_of` meets its contract.
use Rattle.set_runs.specs.PartLaws.{part-is, part-within}
use Rattle.set_runs.proofs.lent.part_of.Goals as goal

pub returns-clause-value : goal.returns-clause-value
returns-clause-value c = part-is _ _ _ c.span_of-first.ensures.value c.span_of-own.ensures.value c.sections_of-shared.ensures
    c.sections_of-sections.ensures c.back.ensures

pub returns-clause-within : goal.returns-clause-within
returns-clause-within c = part-within _ _ _ c.span_of-first.ensures.value c.span_of-own.ensures.value
    c.sections_of-shared.ensures c.sections_of-sections.ensures c.back.ensures c.span_of-own.ensures.within.0 c.span_of-own.ensures.within.1
