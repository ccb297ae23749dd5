-- `declared::check_row` meets its contract.
use mathlib.Core.Path.{◌∙◌}
use native.Mathlib.Omega.{arith}
use Rattle.declared.specs.ShownLaws.{row-shown, row-missed}
use Rattle.declared.proofs.check_row.Goals as goal

pub overflow_add-row : goal.overflow_add-row
overflow_add-row c = omega (arith, c.requires)

pub returns-then-bounds_shown : goal.returns-then-bounds_shown
returns-then-bounds_shown c = row-shown _ _ _ _ _ _ c.bounds_at-own.ensures c.read_bound-bound.ensures c.bounds_shown.ensures
    c.if-bounds_shown.true

pub returns : goal.returns
returns c = c.not_shown.ensures
    ∙ row-missed _ _ _ _ _ _ c.bounds_at-own.ensures c.read_bound-bound.ensures
    c.bounds_shown.ensures c.if-bounds_shown.false
