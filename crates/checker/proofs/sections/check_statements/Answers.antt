-- `checker::sections::check_statements` meets its contract.
use Rattle.std.proofs.lemmas.Result.{err_from_is_err_and}
use Rattle.listed.specs.ListLaws.{entries-few}
use Rattle.checker.specs.VerdictLaws.{measured, table-placed, walk_refused, walk-accepted}
use Rattle.checker.specs.WalkLaws.{forced-own}
use Rattle.checker.proofs.sections.check_statements.Goals as goal

pub walk-walked-requires : goal.walk-walked-requires
walk-walked-requires c = (
  measured _ _ c.requires.0.objects,
  c.frame_of.ensures,
  forced-own c.own_force.ensures,
  table-placed _ _ c.requires.1,
  entries-few _ _ _ c.requires.2,
)

pub returns-in_err-walked : goal.returns-in_err-walked
returns-in_err-walked c = let p = err_from_is_err_and c.from_residual.result c.from_residual.ensures.1 in
    rw (p.1, p.2) (walk_refused _ _ _ _ c.requires.1
    c.requires.2
    c.own_force.ensures
    c.new.ensures c.no_report.ensures
    c.walk-walked.ensures c.in_err-walked.was)

pub returns : goal.returns
returns c = walk-accepted _ _ _ _ c.requires.1
    c.requires.2
    c.own_force.ensures
    c.new.ensures c.no_report.ensures c.walk-walked.ensures
    c.in_ok-walked.was
    c.requires.0.limits.statements
