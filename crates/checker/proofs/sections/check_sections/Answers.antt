-- `checker::sections::check_sections` meets its contract.
use Rattle.std.proofs.lemmas.Result.{err_from_is_err_and}
use Rattle.listed.specs.ListLaws.{form-clear}
use Rattle.checker.specs.VerdictLaws.{layout-refused, layout-clear, list-refused}
use Rattle.checker.proofs.sections.check_sections.Goals as goal

pub check_statements-requires : goal.check_statements-requires
check_statements-requires c = (
  c.requires,
  layout-clear _ _ c.read_layout.ensures c.in_ok-read_layout.was,
  form-clear _ c.check_list.ensures c.in_ok-check_list.was,
)

pub returns-in_err-read_layout : goal.returns-in_err-read_layout
returns-in_err-read_layout c = let p = err_from_is_err_and c.from_residual.result c.from_residual.ensures.1 in
    rw (p.1, p.2) (layout-refused _ _ _ _ c.read_layout.ensures c.in_err-read_layout.was)

pub returns-in_err-check_list : goal.returns-in_err-check_list
returns-in_err-check_list c = let p = err_from_is_err_and c.from_residual-in_err-check_list.result c.from_residual-in_err-check_list.ensures.1 in
    rw (p.1, p.2) (list-refused _ _ _ _ (layout-clear _ _ c.read_layout.ensures c.in_ok-read_layout.was)
    c.check_list.ensures c.in_err-check_list.was)

pub returns : goal.returns
returns c = c.check_statements.ensures
