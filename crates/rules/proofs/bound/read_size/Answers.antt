-- `rules::bound::read_size` meets its contract.
use Rattle.table.specs.declared.variables.Variable.{Variable}
use Rattle.std.specs.Prelude.{Option}
use mathlib.Core.Path.{ap, ◌∙◌}
use Rattle.table.specs.Variables.{variable_at}
use Rattle.rules.specs.BoundLaws.{within, beyond}
use Rattle.rules.specs.Verdict.{variable_size, environment_of}
use Rattle.rules.proofs.bound.read_size.Goals as goal

pub returns-then-p-lt16 : goal.returns-then-p-lt16
unfolding environment_of
returns-then-p-lt16 c = within 16 (λ v. variable_size (variable_at c.args.table.now c.args.sections v)) _ 1
    c.if-p-lt16.true (c.variable_size.ensures ∙ ap (λ (r : Option Variable). variable_size r) c.read_variable.ensures)

pub returns : goal.returns
unfolding environment_of
returns c = beyond 16 (λ v. variable_size (variable_at c.args.table.now c.args.sections v)) _ 1 c.if-p-lt16.false
