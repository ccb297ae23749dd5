use Rattle.rules.specs.Calls as calls
use Rattle.declared.proofs.calls.argument_fits.Goals as goal

pub returns : goal.returns
unfolding calls.argument_fits
returns c = simp (
  c.bounds_fit.ensures,
  c.is_pointer.ensures,
  c.kind_fits.ensures,
  c.argument.ensures,
  c.is_parameter.ensures,
)
