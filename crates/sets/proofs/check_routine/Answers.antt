-- `sets::check_routine` meets its contract.
use Rattle.std.proofs.lemmas.Result.{err_from_is_err_and}
use Rattle.checker.specs.VerdictLaws.{form-formed}
use Rattle.sets.specs.JudgedLaws.{routine-refused, routine-checked}
use Rattle.sets.proofs.check_routine.Goals as goal

pub check_sections-requires : goal.check_sections-requires
check_sections-requires c = form-formed _ c.read_form.ensures c.in_ok-sections.was

pub returns-in_err-sections : goal.returns-in_err-sections
returns-in_err-sections c = let p = err_from_is_err_and c.from_residual.result c.from_residual.ensures.1 in
    rw (p.1, p.2) (routine-refused _ c.read_form.ensures _ c.in_err-sections.was)

pub returns-in_err-check_sections : goal.returns-in_err-check_sections
returns-in_err-check_sections c =
    let p = err_from_is_err_and c.from_residual-in_err-check_sections.result c.from_residual-in_err-check_sections.ensures.1 in
    rw (p.1, p.2) (routine-checked _ c.read_form.ensures _ c.in_ok-sections.was
    (rw c.in_err-check_sections.was at c.check_sections.ensures.verdict))

pub returns : goal.returns
returns c = routine-checked _ c.read_form.ensures _ c.in_ok-sections.was
    (rw c.in_ok-check_sections.was at c.check_sections.ensures.verdict)
