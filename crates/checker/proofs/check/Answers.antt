-- `checker::check` meets its contract.
use Rattle.std.proofs.lemmas.Result.{err_from_is_err_and}
use mathlib.Core.Path.{refl}
use Rattle.declared.specs.Callee.{none-called}
use Rattle.checker.specs.VerdictLaws.{form-refused, form-checked, form-formed}
use Rattle.checker.proofs.check.Goals as goal

pub check_sections-requires : goal.check_sections-requires
check_sections-requires c = form-formed _ c.read_form.ensures c.in_ok-sections.was

pub returns-in_err-sections : goal.returns-in_err-sections
returns-in_err-sections c = let p = err_from_is_err_and c.from_residual.result c.from_residual.ensures.1 in
    rw (p.1, p.2) (form-refused _ _ c.read_form.ensures c.in_err-sections.was)

pub returns : goal.returns
returns c = form-checked _ _ c.read_form.ensures c.in_ok-sections.was (none-called _ _ refl)
    c.check_sections.ensures
