-- `rules::bound::read_own` meets its contract.
use Rattle.table.specs.declared.variables.Variable.{Variable}
use Rattle.std.specs.Prelude.{Option}
use mathlib.Core.Path.{ap, ◌∙◌}
use Rattle.table.specs.Variables.{variable_at}
use Rattle.rules.specs.BoundsRules.{nothing_known}
use Rattle.rules.specs.BoundLaws.{within, beyond}
use Rattle.rules.specs.Verdict.{bounds_of, environment_of}
use Rattle.rules.proofs.bound.read_own.Goals as goal

pub returns-then-p-lt16 : goal.returns-then-p-lt16
unfolding environment_of
returns-then-p-lt16 c = within 16 (λ v. bounds_of (variable_at c.args.table.now c.args.sections v)) _ nothing_known
    c.if-p-lt16.true (c.bounds_of.ensures ∙ ap (λ (r : Option Variable). bounds_of r) c.read_variable.ensures)

pub returns : goal.returns
unfolding environment_of
returns c = beyond 16 (λ v. bounds_of (variable_at c.args.table.now c.args.sections v)) _ nothing_known c.if-p-lt16.false
