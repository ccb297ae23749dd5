-- `rules::bound::row_at` meets its contract.
use Rattle.table.specs.declared.variables.BoundsRow.{BoundsRow}
use Rattle.std.specs.Prelude.{Option}
use mathlib.Core.Path.{ap, ◌∙◌}
use Rattle.table.specs.Variables.{row_at}
use Rattle.rules.specs.BoundsRules.{nothing_known}
use Rattle.rules.specs.BoundLaws.{within, beyond}
use Rattle.rules.specs.Verdict.{row_bounds, environment_of}
use Rattle.rules.proofs.bound.row_at.Goals as goal

pub returns-then-row-lt64 : goal.returns-then-row-lt64
unfolding environment_of
returns-then-row-lt64 c = within 64 (λ v. row_bounds (row_at c.args.table.now c.args.sections v)) _ nothing_known
    c.if-row-lt64.true (c.row_bounds.ensures ∙ ap (λ (r : Option BoundsRow). row_bounds r) c.read_row.ensures)

pub returns : goal.returns
unfolding environment_of
returns c = beyond 64 (λ v. row_bounds (row_at c.args.table.now c.args.sections v)) _ nothing_known c.if-row-lt64.false
