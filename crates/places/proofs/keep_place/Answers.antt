use Rattle.places.specs.StoreLaws.{left-unnamed, left-kept, left-full, left-more}
use mathlib.Core.Path.{sym, ◌∙◌}
use native.Mathlib.Omega.{arith}
use Rattle.places.specs.Positions.{capacity}
use Rattle.places.proofs.keep_place.Goals as goal

pub returns-then-not-is_named : goal.returns-then-not-is_named
returns-then-not-is_named c = left-unnamed _ _ _ _ (sym c.is_named.ensures ∙ c.if-not-is_named.true)

pub returns-then-not-is_next : goal.returns-then-not-is_next
returns-then-not-is_next c = left-kept _ _ _ _ (sym c.is_named.ensures ∙ c.if-not-is_named.false)
    (sym c.is_next.ensures ∙ c.if-not-is_next.true)

pub returns-then-place_count-capacity : goal.returns-then-place_count-capacity
returns-then-place_count-capacity c = left-full _ _ _ _
    (sym c.is_named.ensures
    ∙ c.if-not-is_named.false)
    (sym c.is_next.ensures ∙ c.if-not-is_next.false)
    (omega (arith, c.place_count.ensures, c.capacity.ensures, c.if-place_count-capacity.true))

pub returns : goal.returns
returns c = left-more _ _ _ _
    (sym c.is_named.ensures
    ∙ c.if-not-is_named.false)
    (sym c.is_next.ensures
    ∙ c.if-not-is_next.false)
    (omega (
      arith,
      c.place_count.ensures,
      c.capacity.ensures,
      c.if-place_count-capacity.false,
    )) c.push.ensures
