-- `entry::entry_bounds::bounds_true` meets its contract.
use mathlib.Core.Path.{sym, ◌∙◌}
use native.Mathlib.Omega.{arith}
use borrow.Author.Rules.{rules}
use borrow.Author.Tests.{eq-eqb, ne_eqb}
use Rattle.machine.specs.Machine.{bounds_true}
use Rattle.entry.specs.EntryLaws.{origin-none, origin-past, origin-some}
use Rattle.entry.proofs.entry_bounds.bounds_true.Goals as goal

pub returns-then-value_at-eq0 : goal.returns-then-value_at-eq0
unfolding bounds_true
returns-then-value_at-eq0 c = rw (eq-eqb _ _ (sym c.value_at.ensures.value ∙ c.if-value_at-eq0.true))

pub returns-then-origin-eq0 : goal.returns-then-origin-eq0
unfolding bounds_true
returns-then-origin-eq0 c = rw (ne_eqb _ _ (λ e. c.if-value_at-eq0.false (c.value_at.ensures.value ∙ e)))
    (origin-none _ _ _ _ _ _ (sym c.value_at-origin.ensures.value ∙ c.if-origin-eq0.true))

pub returns-then-pair-directory : goal.returns-then-pair-directory
unfolding bounds_true
returns-then-pair-directory c = rw (ne_eqb _ _ (λ e. c.if-value_at-eq0.false (c.value_at.ensures.value ∙ e)))
    (origin-past _ _ _ _ _ _ (λ e. c.if-origin-eq0.false (c.value_at-origin.ensures.value ∙ e))
    (omega (arith, c.if-pair-directory.true, c.value_at-origin.ensures.value)))

pub starts_by-requires : goal.starts_by-requires
unfolding bounds_true
starts_by-requires c = (
  search rules,
  rw c.size_at-size.ensures
      (c.requires _),
)

pub ends_by-requires : goal.ends_by-requires
unfolding bounds_true
ends_by-requires c = (
  search rules,
  rw c.size_at-size.ensures
      (c.requires _),
)

pub returns : goal.returns
unfolding bounds_true
returns c = rw (
  c.ends_by.ensures,
  c.starts_by.ensures,
  c.end_of-2.ensures,
  c.end_of.ensures,
  c.is_string-string.ensures,
  c.bounds_at-bounds.ensures,
  c.size_at-size.ensures,
  c.upper_limit-high.ensures.0,
  c.is_terminated-ended.ensures,
  c.object_end-end.ensures.value,
  c.value_at-low.ensures.value,
  c.value_at-origin.ensures.value,
  ne_eqb _ _ (λ e. c.if-value_at-eq0.false
      (c.value_at.ensures.value ∙ e)),
) (origin-some _ _ _ _ _ _
    (λ e. c.if-origin-eq0.false
    (c.value_at-origin.ensures.value ∙ e)) (omega (
      arith,
      c.if-pair-directory.false,
      c.value_at-origin.ensures.value,
    )))
