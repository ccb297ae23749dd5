-- `interpreter::starts::prepare_sections` meets its contract: the entry refuses, or what the loop needs is laid out.
use mathlib.Core.Path.{sym, ◌∙◌}
use Rattle.std.proofs.lemmas.Result.{err_from_is_err_and}
use native.Mathlib.Omega.{arith}
use Rattle.table.specs.FormLaws.{well-formed}
use Rattle.rules.specs.EnvironmentLaws.{sizes-small}
use Rattle.interpreter.specs.ClaimLaws.{entry-refused, launched}
use Rattle.interpreter.proofs.starts.prepare_sections.Goals as goal

pub enter-requires : goal.enter-requires
enter-requires c = λ p. rw c.read_environment-environment.ensures (sizes-small _ _ p)

pub mark_reported-requires : goal.mark_reported-requires
mark_reported-requires c = let l = (well-formed _ _ c.requires.table_value.0).limits.statements in
    (l, omega (arith, l, c.write_successors.auto.entries, c.requires.ends_len.1))

pub returns-in_err-enter : goal.returns-in_err-enter
returns-in_err-enter c = let p = err_from_is_err_and c.from_residual.result c.from_residual.ensures.1 in
    rw (p.1, p.2) (entry-refused _ _ _ _ _ _ _ _ c.requires.table_value.0 c.requires.table_value.1
    (rw c.read_environment-environment.ensures at (sym c.enter.ensures ∙ c.in_err-enter.was)))

pub returns : goal.returns
returns c = launched _ c.requires.table_value.0
    c.requires.table_value.1 (record {
      cells-small = λ i. omega (
        arith,
        c.shared_slice_known-2-1.given i,
      );
      values-small = λ x. omega (
        arith,
        c.shared_slice_known-3-1.given x,
      );
    }) c.read_environment-environment.ensures c.enter.ensures
    c.in_ok-enter.was
    (c.copy_ends.ensures
    ∙ c.lay_ends.ensures)
    c.write_successors.ensures
    c.requires.ends_len.1 _
    c.requires.table_value.2 c.mark_reported.ensures
