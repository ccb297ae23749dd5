-- `entry::entry::enter` meets its contract.
use mathlib.Core.Path.{sym, ◌∙◌}
use Rattle.std.proofs.lemmas.Result.{err_from_is_err_and}
use Rattle.entry.specs.EntryLaws.{right-pairs, enter-memory, enter-pairs, enter-lengths, enter-values, enter-last}
use Rattle.entry.proofs.entry.enter.Goals as goal

pub returns-then-not-memory_right : goal.returns-then-not-memory_right
returns-then-not-memory_right c = enter-memory _ _ _ _ _ _ (sym c.memory_right.ensures ∙ c.if-not-memory_right.true)

pub check_pairs-requires : goal.check_pairs-requires
check_pairs-requires c = right-pairs _ _ _ (sym c.memory_right.ensures ∙ c.if-not-memory_right.false)

pub returns-in_err-check_pairs : goal.returns-in_err-check_pairs
returns-in_err-check_pairs c = let p = err_from_is_err_and c.from_residual.result c.from_residual.ensures.1 in
    rw (p.1, p.2) (sym c.in_err-check_pairs.was ∙ enter-pairs _ _ _ _ _ _ (sym c.memory_right.ensures ∙ c.if-not-memory_right.false) _ _
    c.check_pairs.ensures c.in_err-check_pairs.was)

pub returns-then-not-lengths_right : goal.returns-then-not-lengths_right
returns-then-not-lengths_right c = enter-lengths _ _ _ _ _ _
    (sym c.memory_right.ensures ∙ c.if-not-memory_right.false)
    (sym c.check_pairs.ensures ∙ c.in_ok-check_pairs.was)
    (sym c.lengths_right.ensures ∙ c.if-not-lengths_right.true)

pub returns-in_err-check_values : goal.returns-in_err-check_values
returns-in_err-check_values c = let p = err_from_is_err_and c.from_residual-in_err-check_values.result c.from_residual-in_err-check_values.ensures.1 in
    rw (p.1, p.2) (sym c.in_err-check_values.was ∙ enter-values _ _ _ _ _ _
    (sym c.memory_right.ensures
    ∙ c.if-not-memory_right.false)
    (sym c.check_pairs.ensures ∙ c.in_ok-check_pairs.was)
    (sym c.lengths_right.ensures ∙ c.if-not-lengths_right.false) _ _
    c.check_values.ensures c.in_err-check_values.was)

pub check_last-requires : goal.check_last-requires
check_last-requires c = right-pairs _ _ _
    (sym c.memory_right.ensures
    ∙ c.if-not-memory_right.false)

pub returns : goal.returns
returns c = enter-last _ _ _ _ _ _
    (sym c.memory_right.ensures
    ∙ c.if-not-memory_right.false)
    (sym c.check_pairs.ensures
    ∙ c.in_ok-check_pairs.was)
    (sym c.lengths_right.ensures ∙ c.if-not-lengths_right.false) _
    (sym c.check_values.ensures ∙ c.in_ok-check_values.was) c.check_last.ensures
