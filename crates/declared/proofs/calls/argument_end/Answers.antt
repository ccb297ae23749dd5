use Rattle.rules.specs.Calls.{argument_end}
use Rattle.declared.proofs.calls.argument_end.Goals as goal

pub returns-in_default : goal.returns-in_default
unfolding argument_end
returns-in_default c = simp c.in_default.is

pub returns : goal.returns
unfolding argument_end
returns c = simp (c.argument-2.ensures, c.argument.ensures, c.in-Some.is)
