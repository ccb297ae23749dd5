use Rattle.rules.specs.Calls.{end_fits}
use Rattle.declared.proofs.calls.end_fits.Goals as goal

pub returns-in_default : goal.returns-in_default
unfolding end_fits
returns-in_default c = simp c.in_default.is

pub returns : goal.returns
unfolding end_fits
returns c = simp (c.is_parameter-2.ensures, c.is_parameter.ensures, c.in-Some.is)
