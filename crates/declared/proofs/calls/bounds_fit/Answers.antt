use Rattle.rules.specs.Calls as calls
use Rattle.declared.proofs.calls.bounds_fit.Goals as goal

pub returns : goal.returns
unfolding calls.bounds_fit
returns c = simp (
  c.bounds_shown.ensures,
  c.argument_bounds.ensures,
  c.bounds_at.ensures,
  c.end_fits-2.ensures,
  c.end_fits.ensures,
  c.argument-x.ensures,
  c.bounds_at-own.ensures,
)
