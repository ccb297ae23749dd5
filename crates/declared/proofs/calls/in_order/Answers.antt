use Rattle.rules.specs.Calls.{in_order}
use Rattle.declared.proofs.calls.in_order.Goals as goal

pub returns : goal.returns
unfolding in_order
returns c = simp (
  c.is_parameter-6.ensures,
  c.is_parameter-5.ensures,
  c.is_parameter-4.ensures,
  c.is_parameter-3.ensures,
  c.is_parameter-2.ensures,
  c.is_parameter.ensures,
)
