-- `checks::test_store` meets its contract.
use mathlib.Core.Path.{◌∙◌}
use Prim.Native.Nat.{◌+◌, ◌*◌}
use native.Mathlib.Omega.{arith}
use Rattle.checks.specs.CheckLaws.{below_step, access-step}
use Rattle.checks.proofs.test_store.Goals as goal

pub end_value-lower-requires : goal.end_value-lower-requires
end_value-lower-requires c = (
  omega (arith, c.requires.0, c.requires.1),
  c.requires.2 _,
  rw c.size_in-size.ensures (c.requires.3 _),
  omega (arith, c.requires.4 (6 * c.args.pointer) (omega arith), c.requires.5),
  omega
      (arith, c.requires.4 (6 * c.args.pointer + 1) (omega arith), c.requires.5),
)

pub end_value-upper-requires : goal.end_value-upper-requires
end_value-upper-requires c = (
  omega (arith, c.requires.0, c.requires.1),
  c.requires.2 _,
  rw c.size_in-size.ensures (c.requires.3 _),
  omega (arith, c.requires.4 (6 * c.args.pointer + 3) (omega arith), c.requires.5),
  omega
      (arith, c.requires.4 (6 * c.args.pointer + 3 + 1) (omega arith), c.requires.5),
)

pub returns-then-address-upper : goal.returns-then-address-upper
returns-then-address-upper c = rw (
  c.slot-null.ensures.value,
  c.end_value-lower.ensures,
  c.size_in-size.ensures,
) at c.access_step.ensures ∙ below_step _ _ _ _ _ _ _ c.requires.0
    (rw (c.end_value-upper.ensures, c.size_in-size.ensures) at c.if-address-upper.true)

pub returns : goal.returns
returns c = rw (
  c.beyond.ensures,
  c.string_in.ensures,
  c.slot-null.ensures.value,
  c.end_value-lower.ensures,
  c.end_value-upper.ensures,
  c.size_in-size.ensures,
) at c.access_step-2.ensures ∙ access-step _ _ _ _ _ _ _ c.requires.0
