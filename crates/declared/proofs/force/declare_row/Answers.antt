-- `declared::force::declare_row` meets its contract.
use mathlib.Core.Path.{refl}
use native.Mathlib.Omega.{arith}
use Rattle.declared.specs.ForceLaws.{row-refused, row-taken}
use Rattle.declared.proofs.force.declare_row.Goals as goal

pub check_row-own-requires : goal.check_row-own-requires
check_row-own-requires c = omega (arith, c.requires.2)

pub returns-in_default : goal.returns-in_default
returns-in_default c = row-refused _ _ _ _ c.requires.0 refl c.check_row-own.ensures c.in_default.is refl

pub returns : goal.returns
returns c = row-taken _ _ _ _ c.requires.0 refl
    c.check_row-own.ensures
    c.in-Ok.is c.with_row-rows.ensures c.force_of-after.ensures
    c.bounds_after.ensures c.check_known-verdict.ensures refl
