use native.Mathlib.Omega.{arith}
use Rattle.rewalks.specs.RewalkLaws.{begun_all, begun-past, begun-at}
use Rattle.rewalks.proofs.begun_to.Goals as goal

pub returns-in_default : goal.returns-in_default
returns-in_default c = begun_all _ _ c.in_default.is

pub returns-then-place-sections : goal.returns-then-place-sections
returns-then-place-sections c = begun-past _ _ c.in-Err.is c.place-place.ensures c.if-place-sections.true

pub overflow_add-result : goal.overflow_add-result
overflow_add-result c = omega (arith, c.span.ensures.2, c.if-place-sections.false, c.requires)

pub returns : goal.returns
returns c = begun-at _ _ c.in-Err.is c.place-place.ensures c.if-place-sections.false
    c.span.ensures.0
