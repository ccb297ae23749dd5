use Rattle.rules.specs.Calls as calls
use Rattle.declared.proofs.calls.arguments_fit.Goals as goal

pub returns : goal.returns
unfolding calls.arguments_fit
returns c = simp (
  c.argument_fits-4.ensures,
  c.argument_fits-3.ensures,
  c.argument_fits-2.ensures,
  c.argument_fits.ensures,
  c.last_integer.ensures,
  c.in_order.ensures,
)
