-- `declared::calls::check_call` meets its contract.
use Rattle.std.proofs.lemmas.Result.{err_from_is_err_and}
use mathlib.Core.Path.{refl, sym, ◌∙◌}
use Rattle.declared.specs.Callee.{checked_refused, checked-through, result-short}
use Rattle.declared.proofs.calls.check_call.Goals as goal

pub returns-in_err-check_callee : goal.returns-in_err-check_callee
returns-in_err-check_callee c = let p = err_from_is_err_and c.from_residual.result c.from_residual.ensures.1 in
    rw (p.1, p.2) (sym c.in_err-check_callee.was ∙ checked_refused _ _ _ _ _ _ refl c.check_callee.ensures c.in_err-check_callee.was)

pub check_effect-requires : goal.check_effect-requires
check_effect-requires c = result-short _ c.result_effect.ensures

pub returns : goal.returns
returns c = checked-through _ _ _ _ _ _ refl c.check_callee.ensures c.in_ok-check_callee.was
    c.drop_result-after.ensures c.result_effect.ensures c.check_effect.ensures
