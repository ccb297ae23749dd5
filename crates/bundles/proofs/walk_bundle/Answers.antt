-- The invariant: what is left of the bundle, from the facts, rows and bounds now, is the whole.
use Rattle.std.specs.Prelude.{Some}
use mathlib.Core.Path.{refl, ap, sym, ◌∙◌}
use borrow.Author.Tests.{not-false}
use native.Mathlib.Omega.{arith}
use Rattle.statements.specs.StatementLaws.{read-within, read-limits}
use Rattle.effects.specs.FactRulesLaws.{carried-out, read-ranged}
use Rattle.bundles.specs.BundleLaws.{held_none, held-done, held-unread, held-other, held-access, held_more, access-asked, nothing-asked-of, applied-facts}
use Rattle.bundles.specs.BundleLaws.{applied-effect, applied-short, held-missed, held-row, measured-by, row-limits}
use Rattle.reports.specs.declared.Report.{Report}
use Rattle.rules.specs.Verdict.{environment_of}
use Rattle.bundles.proofs.walk_bundle.Goals as goal
use Rattle.bundles.proofs.walk_bundle.Goals.{else-is_access, else-loop-left-test, then-is_access+else-not-access_shown}
use Rattle.bundles.proofs.walk_bundle.Goals.{then-loop-left-test+in-Some+in_default-statement, then-loop-left-test+in_default}

pub loop-left-init : goal.loop-left-init
loop-left-init c = held_none _ _ _ _ _ _ _ _ c.requires.3.seen refl

pub overflow_add-next : goal.overflow_add-next
overflow_add-next c = omega (
  arith,
  read-within _ _ _ _ (sym c.read_due-got.ensures ∙ c.in-Some.is),
  read-limits _ _ _ _ (sym c.read_due-got.ensures ∙ c.in-Some.is),
)

pub check_row-verdict-requires : goal.check_row-verdict-requires
check_row-verdict-requires c = omega (
  arith,
  row-limits _ _ _ (sym c.read_due-got.ensures
      ∙ c.in-Some.is) c.in-Plain.is
      (sym c.declares_of-declares.ensures ∙ c.in-Some-declares.is),
)

pub returns-in_default-verdict : goal.returns-in_default-verdict
returns-in_default-verdict c = held-missed c.loop-left.invariant
    c.loop-left-test.true
    (sym c.read_due-got.ensures
    ∙ c.in-Some.is)
    c.in-Plain.is
    (sym c.declares_of-declares.ensures ∙ c.in-Some-declares.is)
    c.check_row-verdict.ensures
    c.in_default-verdict.is refl

pub with_row-rows-requires : goal.with_row-rows-requires
with_row-rows-requires c = row-limits _ _ _
    (sym c.read_due-got.ensures
    ∙ c.in-Some.is)
    c.in-Plain.is
    (sym c.declares_of-declares.ensures ∙ c.in-Some-declares.is)

pub loop-left-smaller-in-Some-declares : goal.loop-left-smaller-in-Some-declares
loop-left-smaller-in-Some-declares c = omega (
  arith,
  c.loop-left-test.true,
)

pub loop-left-preserved-in-Some-declares : goal.loop-left-preserved-in-Some-declares
loop-left-preserved-in-Some-declares c = held-row c.loop-left.invariant
    c.loop-left-test.true
    (sym c.read_due-got.ensures
    ∙ c.in-Some.is)
    c.in-Plain.is
    (sym c.declares_of-declares.ensures
    ∙ c.in-Some-declares.is)
    c.check_row-verdict.ensures
    c.in-Ok.is c.bounds_after-known.ensures c.with_row-rows.ensures
    c.seen_in-seen.ensures

pub returns-then-not-access_shown : goal.returns-then-not-access_shown
returns-then-not-access_shown c = held-access c.loop-left.invariant
    c.loop-left-test.true
    (sym c.read_due-got.ensures
    ∙ c.in-Some.is)
    c.in-Plain.is
    c.access_shown.ensures (c.if-not-access_shown.true) refl

pub access_safe-safe-requires : goal.access_safe-safe-requires
access_safe-safe-requires c = (read-ranged _ _ _ _
    ((sym c.read_due-got.ensures
    ∙ c.in-Some.is)
    ∙ ap Some c.in-Plain.is))

pub mark_if-report-requires : goal.mark_if-report-requires
mark_if-report-requires c = omega (
  arith,
  read-within _ _ _ _ (sym
      c.read_due-got.ensures
      ∙ c.in-Some.is),
  read-limits _ _ _ _ (sym
      c.read_due-got.ensures
      ∙ c.in-Some.is),
)

pub ask_statement-requires : goal.ask_statement-requires
ask_statement-requires c = (read-ranged _ _ _ _
    ((sym c.read_due-got.ensures
    ∙ c.in-Some.is)
    ∙ ap Some c.in-Plain.is))

pub plan_statement-plan-requires : goal.plan_statement-plan-requires
plan_statement-plan-requires c = (read-ranged _ _ _ _
    ((sym c.read_due-got.ensures
    ∙ c.in-Some.is)
    ∙ ap Some c.in-Plain.is))

pub bounds_after-known-requires-in-None : goal.bounds_after-known-requires-in-None
bounds_after-known-requires-in-None c = applied-short
    (environment_of c.args.table.now
    c.args.sections) _ _
    (measured-by _ _ c.requires.2 (carried-out _ _ _ _ _ c.ask_statement.ensures
    c.answer-answers.ensures c.plan_statement-plan.ensures refl))
    c.requires.0
    (read-ranged _ _ _ _ ((sym
    c.read_due-got.ensures
    ∙ c.in-Some.is)
    ∙ ap Some c.in-Plain.is))

pub loop-left-smaller : goal.loop-left-smaller
loop-left-smaller c = omega (
  arith,
  c.loop-left-test.true,
)

pub loop-left-preserved : goal.loop-left-preserved
loop-left-preserved c = held_more c.loop-left.invariant
    c.loop-left-test.true
    (sym c.read_due-got.ensures
    ∙ c.in-Some.is)
    c.in-Plain.is
    (sym c.declares_of-declares.ensures
    ∙ c.in-None.is)
    (elim c.if-is_access.branch [
      | then-is_access+else-not-access_shown w ↦ access-asked _ _ _ _ _ _ w.access_shown.ensures (not-false _ w.if-not-access_shown.false-raw)
          w.access_safe-safe.ensures
          (ap (λ (r : Report). r.words) w.report-is ∙ w.mark_if-report.ensures)
      | else-is_access w ↦ nothing-asked-of _ _ _ _ _ _ c.is_access.ensures w.if-is_access.false
          (ap (λ (r : Report). r.words) w.report-is)
    ])
    (applied-facts (environment_of
    c.args.table.now
    c.args.sections) _ _
    (measured-by _ _ c.requires.2
    (carried-out _ _ _ _ _ c.ask_statement.ensures c.answer-answers.ensures
    c.plan_statement-plan.ensures c.after-facts.ensures)))
    (applied-effect (environment_of
    c.args.table.now
    c.args.sections) _ _
    (measured-by _ _ c.requires.2
    (carried-out _ _ _ _ _ c.ask_statement.ensures c.answer-answers.ensures
    c.plan_statement-plan.ensures c.after-facts.ensures))) c.bounds_after-known-in-None.ensures

pub returns : goal.returns
returns c = elim c.loop-left-test.branch [
  | else-loop-left-test w ↦ held-done c.loop-left.invariant w.loop-left-test.false c.end_bundle.ensures
  | then-loop-left-test+in_default w ↦ held-unread c.loop-left.invariant w.loop-left-test.true (sym w.read_due-got.ensures ∙ w.in_default.is)
      c.end_bundle.ensures
  | then-loop-left-test+in-Some+in_default-statement w ↦ held-other c.loop-left.invariant w.loop-left-test.true
      (sym w.read_due-got.ensures ∙ w.in-Some.is) w.in_default-statement.not-Plain c.end_bundle.ensures
]
