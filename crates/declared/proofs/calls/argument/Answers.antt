use Rattle.declared.specs.Callee.{argument-past}
use Rattle.declared.proofs.calls.argument.Goals as goal

pub returns-in_default : goal.returns-in_default
returns-in_default c = argument-past c.args.call _ c.in_default.in_default-own.rest.0.0.0.1 c.in_default.in_default-own.rest.0.0.1
    c.in_default.in_default-own.rest.0.1 c.in_default.in_default-own.rest.1
