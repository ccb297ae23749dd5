-- `walk`, which calls itself on nested blocks. The invariant: a walk of what is left, from the facts now and what is in force now, is a walk of the whole.
use Prim.Native.Nat.{ℕ}
use mathlib.Core.Path.{◌≡◌, refl, sym, ap, ◌∙◌}
use native.Mathlib.Omega.{arith}
use borrow.Author.Tests.{not-true}
use Rattle.blocks.specs.Tree.{parse}
use Rattle.rules.specs.Verdict.{environment_of}
use Rattle.effects.specs.FactRulesLaws.{assumed, negated-asked}
use Rattle.bundles.specs.BundleLaws.{applied-short, measured-by, marked-safe, unmarked}
use Rattle.bundles.specs.declared.Walked.{Walked}
use Rattle.checker.specs.WalkLaws.{Turn, carried_from, arm, placed, falls as left-falls, negated-offset, if-counts, while-count, bundle-count, if-offset}
use Rattle.checker.specs.WalkLaws.{while-offset, plain-ranged, kept-none, kept-done, kept-end, kept-unread, plain-refused}
use Rattle.checker.specs.PlaceLaws.{then-placed, else-placed, body-placed}
use Rattle.checker.specs.WalkLaws.{turn-plain, turn-untouched, at-node, then-refused, else-refused, turn-if, body_refused, turn-while, bundle-refused}
use Rattle.checker.specs.WalkLaws.{turn-bundle, row-named-within, same-force, row-refused, turn-row, sides-differ, ends-differ, before-refused, again-refused}
use Rattle.checker.specs.WalkLaws.{call-refused}
use Rattle.checker.specs.WalkLaws.{turn-call, empty-walks, settled, settled-walks, no-entries}
use Rattle.declared.specs.Force.{state_of}
use Rattle.declared.specs.Callee.{callees_in}
use Rattle.checker.proofs.walk.+walk.Goals as goal
use Rattle.checker.proofs.walk.+walk.Goals.{else-inner-middle, else-is_access, else-listed-gt0, else-loop-left-test, else-middle-rest, then-inner-middle}
use Rattle.checker.proofs.walk.+walk.Goals.{then-is_access, then-listed-gt0, then-loop-left-test+then-at-end, then-middle-rest+in-Ok-other_verdict}
use Rattle.checker.proofs.walk.+walk.Goals.{In-Some, Joined-is_access}

-- the turn, once its statement is read
turn : (t : ℕ) (d : In-Some t)
    → Turn d.args.table.now d.args.sections (environment_of d.args.table.now d.args.sections) d.args.listed.now (callees_in d.args.words.now d.args.callees.now)
    d.args.end d.args.allowed (parse d.args.allowed d.args.table.now d.args.sections d.args.first d.args.end) (state_of d.args.given d.args.begun.rows.each)
    d.args.reported.words d.loop-left.at d.loop-left.left d.loop-left.now.facts d.loop-left.force d.loop-left.now.report.words d.in-Some.statement
turn t d = record {
  so_far = d.loop-left.invariant;
  some = d.loop-left-test.true;
  within = d.if-at-end.false;
  read = sym d.read_due-got.ensures ∙ d.in-Some.is;
}

-- Where an access and any other statement meet again, the facts are those before the statement, and an access is marked where it is safe.
met : (t : ℕ) (d : Joined-is_access t)
    → d.if-is_access.now.facts
    ≡ d.loop-left.now.facts
met t d = elim d.if-is_access.branch [
  | then-is_access w ↦ ap (λ (r : Walked). r.facts) w.now-is
  | else-is_access w ↦ ap (λ (r : Walked). r.facts) w.now-is
]

pub loop-left-init : goal.loop-left-init
loop-left-init t c = kept-none _ _ _ _ _ _ _ _ _ _ _ c.requires.2 c.requires.3

pub returns-in_default : goal.returns-in_default
returns-in_default t c = kept-unread c.loop-left.invariant
    c.loop-left-test.true c.if-at-end.false
    (sym c.read_due-got.ensures ∙
    c.in_default.is) refl

pub overflow_add-inner : goal.overflow_add-inner
overflow_add-inner t c = omega (arith, placed (turn t (goal.at.overflow_add-inner t c).In-Some))

pub declare_here-verdict-requires : goal.declare_here-verdict-requires
declare_here-verdict-requires t c = let l = row-named-within
    (arm (turn t (goal.at.declare_here-verdict-requires t c).In-Some) c.in-Plain.is)
    (sym c.declares_of-declares.ensures ∙ c.in-Some-declares.is) in (
      (turn t (goal.at.declare_here-verdict-requires t c).In-Some).so_far.forced,
      l.0,
      omega (arith, l.0, l.1),
    )

pub returns-in_default-verdict : goal.returns-in_default-verdict
returns-in_default-verdict t c = row-refused (arm (turn t (goal.at.returns-in_default-verdict t c).In-Some)
    c.in-Plain.is) (sym
    c.declares_of-declares.ensures ∙ c.in-Some-declares.is)
    c.declare_here-verdict.ensures refl c.in_default-verdict.is

pub loop-left-smaller-in-Some-declares : goal.loop-left-smaller-in-Some-declares
loop-left-smaller-in-Some-declares t c = omega (arith, (turn t (goal.at.loop-left-smaller-in-Some-declares t c).In-Some).some)

pub loop-left-preserved-in-Some-declares : goal.loop-left-preserved-in-Some-declares
loop-left-preserved-in-Some-declares t c = turn-row (arm (turn t (goal.at.loop-left-preserved-in-Some-declares t c).In-Some)
    c.in-Plain.is) (sym
    c.declares_of-declares.ensures ∙ c.in-Some-declares.is)
    c.declare_here-verdict.ensures c.in-Ok.is

pub access_safe-safe-requires : goal.access_safe-safe-requires
access_safe-safe-requires t c = plain-ranged
    (arm (turn t (goal.at.access_safe-safe-requires t c).In-Some)
    c.in-Plain.is)

pub mark_if-now-requires : goal.mark_if-now-requires
mark_if-now-requires t c = placed (turn t (goal.at.mark_if-now-requires t c).In-Some)

pub ask_statement-requires : goal.ask_statement-requires
ask_statement-requires t c = plain-ranged
    (arm (turn t (goal.at.ask_statement-requires t c).In-Some)
    c.in-Plain.is)

pub plan_statement-plan-requires : goal.plan_statement-plan-requires
plan_statement-plan-requires t c = plain-ranged
    (arm (turn t (goal.at.plan_statement-plan-requires t c).In-Some)
    c.in-Plain.is)

pub check_effect-verdict-requires : goal.check_effect-verdict-requires
check_effect-verdict-requires t c = applied-short
    (environment_of c.args.table.now
    c.args.sections) _ _ (measured-by _ _
    c.requires.1 (carried_from (met t (goal.at.check_effect-verdict-requires t c).Joined-is_access) _ _ _ _ c.ask_statement.ensures
    c.answer-answers.ensures c.plan_statement-plan.ensures c.after-next.ensures))
    c.requires.0 (plain-ranged (arm (turn t (goal.at.check_effect-verdict-requires t c).In-Some)
    c.in-Plain.is))

pub returns-in_default-verdict-2 : goal.returns-in_default-verdict-2
returns-in_default-verdict-2 t c = plain-refused (arm
    (turn t (goal.at.returns-in_default-verdict-2 t c).In-Some)
    c.in-Plain.is)
    (sym
    c.declares_of-declares.ensures ∙
    c.in-None.is) (measured-by _ _
    c.requires.1 (carried_from (met t (goal.at.returns-in_default-verdict-2 t c).Joined-is_access) _ _ _ _
    c.ask_statement.ensures
    c.answer-answers.ensures
    c.plan_statement-plan.ensures
    c.after-next.ensures)) c.check_effect-verdict.ensures refl
    c.in_default-verdict-2.is

pub loop-left-smaller-in-Ok-verdict : goal.loop-left-smaller-in-Ok-verdict
loop-left-smaller-in-Ok-verdict t c = omega (
  arith,
  (turn t (goal.at.loop-left-smaller-in-Ok-verdict t c).In-Some).some,
)

pub loop-left-preserved-in-Ok-verdict : goal.loop-left-preserved-in-Ok-verdict
loop-left-preserved-in-Ok-verdict t c = turn-plain (arm
    (turn t (goal.at.loop-left-preserved-in-Ok-verdict t c).In-Some)
    c.in-Plain.is)
    (sym c.declares_of-declares.ensures ∙
    c.in-None.is) (measured-by _ _
    c.requires.1 (carried_from (met t (goal.at.loop-left-preserved-in-Ok-verdict t c).Joined-is_access) _ _ _ _
    c.ask_statement.ensures
    c.answer-answers.ensures
    c.plan_statement-plan.ensures
    c.after-next.ensures)) c.check_effect-verdict.ensures
    (elim c.if-is_access.branch [
      | then-is_access w ↦ marked-safe _ _ _ _ _ w.access_safe-safe.ensures (ap (λ (r : Walked). r.report.words) w.now-is ∙ w.mark_if-now.ensures)
      | else-is_access w ↦ unmarked _ _ _ _ _ c.is_access.ensures w.if-is_access.false
          (ap (λ (r : Walked). r.report.words) w.now-is)
    ]) c.in-Ok-verdict.is

pub loop-left-smaller-else-touches : goal.loop-left-smaller-else-touches
loop-left-smaller-else-touches t c = omega (arith, (turn t (goal.at.loop-left-smaller-else-touches t c).In-Some).some)

pub loop-left-preserved-else-touches : goal.loop-left-preserved-else-touches
loop-left-preserved-else-touches t c = turn-untouched (arm (turn t (goal.at.loop-left-preserved-else-touches t c).In-Some)
    c.in-Plain.is) (sym
    c.declares_of-declares.ensures
    ∙ c.in-None.is) (measured-by _ _
    c.requires.1 (carried_from (met t (goal.at.loop-left-preserved-else-touches t c).Joined-is_access) _ _ _ _ c.ask_statement.ensures
    c.answer-answers.ensures c.plan_statement-plan.ensures c.after-next.ensures))
    (elim c.if-is_access.branch [
      | then-is_access w ↦ marked-safe _ _ _ _ _ w.access_safe-safe.ensures (ap (λ (r : Walked). r.report.words) w.now-is ∙ w.mark_if-now.ensures)
      | else-is_access w ↦ unmarked _ _ _ _ _ c.is_access.ensures w.if-is_access.false
          (ap (λ (r : Walked). r.report.words) w.now-is)
    ])
    c.requires.1.pointers
    (sym c.touches.ensures ∙ c.if-touches.false)

pub overflow_add-middle : goal.overflow_add-middle
overflow_add-middle t c = let u = (arm (turn t (goal.at.overflow_add-middle t c).In-Some) c.in-If.is) in omega (arith, placed u, if-counts u)

pub overflow_add-rest : goal.overflow_add-rest
overflow_add-rest t c = let u = (arm (turn t (goal.at.overflow_add-rest t c).In-Some) c.in-If.is) in omega (arith, placed u, if-counts u)

pub ask_condition-requires : goal.ask_condition-requires
ask_condition-requires t c = if-offset (arm (turn t (goal.at.ask_condition-requires t c).In-Some) c.in-If.is)

pub assume-requires : goal.assume-requires
assume-requires t c = if-offset (arm (turn t (goal.at.assume-requires t c).In-Some) c.in-If.is)

pub walk-side-requires : goal.walk-side-requires
walk-side-requires t c = (
  left-falls (turn t (goal.at.walk-side-requires t c).In-Some)
      c.decreases,
  (
    c.requires.0,
    c.requires.1,
    (turn t (goal.at.walk-side-requires t c).In-Some).so_far.forced,
    let u = arm (turn t (goal.at.walk-side-requires t c).In-Some)
        c.in-If.is in then-placed u.read (at-node u),
    c.requires.4,
  ),
)

pub returns-in_default-then_verdict : goal.returns-in_default-then_verdict
returns-in_default-then_verdict t c = then-refused (arm (turn t (goal.at.returns-in_default-then_verdict t c).In-Some)
    c.in-If.is)
    (assumed _ _ _ c.ask_condition.ensures c.answer-answers-in-If.ensures c.assume.ensures
    c.after-next-in-If.ensures) {r = c.if-inner-middle.side} (elim c.if-inner-middle.branch [
      | then-inner-middle w ↦ rw w.side-is w.walk-side.ensures
      | else-inner-middle w ↦ rw w.side-is (empty-walks _ _ _ _ _ _ _ _ _ _ _ w.if-inner-middle.false)
    ]) c.in_default-then_verdict.is

pub assume-requires-in-If : goal.assume-requires-in-If
assume-requires-in-If t c = negated-offset _ _ c.negated.ensures
    (if-offset (arm (turn t (goal.at.assume-requires-in-If t c).In-Some)
    c.in-If.is))

pub walk-now-requires : goal.walk-now-requires
walk-now-requires t c = (
  left-falls (turn t (goal.at.walk-now-requires t c).In-Some)
      c.decreases,
  (
    c.requires.0,
    c.requires.1,
    (turn t (goal.at.walk-now-requires t c).In-Some).so_far.forced,
    let u = arm (turn t (goal.at.walk-now-requires t c).In-Some) c.in-If.is
        in else-placed u.read (at-node u),
    c.requires.4,
  ),
)

pub returns-in_default-other_verdict : goal.returns-in_default-other_verdict
returns-in_default-other_verdict t c = else-refused (arm
    (turn t (goal.at.returns-in_default-other_verdict t c).In-Some) c.in-If.is)
    (assumed _ _ _ c.ask_condition.ensures c.answer-answers-in-If.ensures c.assume.ensures
    c.after-next-in-If.ensures) {r = c.if-inner-middle.side}
    (elim c.if-inner-middle.branch [
      | then-inner-middle w ↦ rw w.side-is w.walk-side.ensures
      | else-inner-middle w ↦ rw w.side-is (empty-walks _ _ _ _ _ _ _ _ _ _ _ w.if-inner-middle.false)
    ])
    c.in-Ok-then_verdict.is
    c.negated.ensures
    (assumed _ _ _ (negated-asked _ _ c.negated.ensures
    c.ask_condition.ensures)
    c.answer-answers-in-If.ensures
    c.assume-in-If.ensures c.after-next-in-If-2.ensures)
    c.walk-now.ensures c.in_default-other_verdict.is

pub returns-then-not-same_rows : goal.returns-then-not-same_rows
returns-then-not-same_rows t c = sides-differ (arm
    (turn t (goal.at.returns-then-not-same_rows t c).In-Some) c.in-If.is)
    (assumed _ _ _ c.ask_condition.ensures c.answer-answers-in-If.ensures
    c.assume.ensures
    c.after-next-in-If.ensures) {r = c.if-inner-middle.side}
    (elim c.if-inner-middle.branch [
      | then-inner-middle w ↦ rw w.side-is w.walk-side.ensures
      | else-inner-middle w ↦ rw w.side-is (empty-walks _ _ _ _ _ _ _ _ _ _ _ w.if-inner-middle.false)
    ]) c.in-Ok-then_verdict.is
    c.negated.ensures (assumed _ _ _
    (negated-asked _ _ c.negated.ensures
    c.ask_condition.ensures)
    c.answer-answers-in-If.ensures
    c.assume-in-If.ensures c.after-next-in-If-2.ensures)
    {o = settled
    c.if-middle-rest.now}
    (elim c.if-middle-rest.branch [
      | then-middle-rest+in-Ok-other_verdict w ↦ rw w.now-is (settled-walks w.walk-now.ensures w.in-Ok-other_verdict.is)
      | else-middle-rest w ↦ rw w.now-is (empty-walks _ _ _ _ _ _ _ _ _ _ _ w.if-middle-rest.false)
    ]) refl c.same_rows.ensures
    (c.if-not-same_rows.true) refl

pub loop-left-smaller-then-not-same_rows-2 : goal.loop-left-smaller-then-not-same_rows-2
loop-left-smaller-then-not-same_rows-2 t c = omega (
  arith,
  (turn t (goal.at.loop-left-smaller-then-not-same_rows-2 t c).In-Some).some,
)

pub loop-left-preserved-then-not-same_rows-2 : goal.loop-left-preserved-then-not-same_rows-2
loop-left-preserved-then-not-same_rows-2 t c = turn-if (arm (turn t (goal.at.loop-left-preserved-then-not-same_rows-2 t c).In-Some) c.in-If.is)
    (assumed _ _ _ c.ask_condition.ensures
    c.answer-answers-in-If.ensures c.assume.ensures c.after-next-in-If.ensures) {r = c.if-inner-middle.side}
    (elim c.if-inner-middle.branch [
      | then-inner-middle w ↦ rw w.side-is w.walk-side.ensures
      | else-inner-middle w ↦ rw w.side-is (empty-walks _ _ _ _ _ _ _ _ _ _ _ w.if-inner-middle.false)
    ])
    c.in-Ok-then_verdict.is
    c.negated.ensures
    (assumed _ _ _ (negated-asked _ _ c.negated.ensures
    c.ask_condition.ensures) c.answer-answers-in-If.ensures
    c.assume-in-If.ensures
    c.after-next-in-If-2.ensures) {o = settled
    c.if-middle-rest.now}
    (elim c.if-middle-rest.branch [
      | then-middle-rest+in-Ok-other_verdict w ↦ rw w.now-is (settled-walks w.walk-now.ensures w.in-Ok-other_verdict.is)
      | else-middle-rest w ↦ rw w.now-is (empty-walks _ _ _ _ _ _ _ _ _ _ _ w.if-middle-rest.false)
    ]) refl
    c.same_rows.ensures (c.if-not-same_rows.false)
    c.requires.1.pointers
    c.join-next.ensures c.put_in_force.ensures

pub loop-left-smaller-else-not-same_rows-2 : goal.loop-left-smaller-else-not-same_rows-2
loop-left-smaller-else-not-same_rows-2 t c = omega (
  arith,
  (turn t (goal.at.loop-left-smaller-else-not-same_rows-2 t c).In-Some).some,
)

pub loop-left-preserved-else-not-same_rows-2 : goal.loop-left-preserved-else-not-same_rows-2
loop-left-preserved-else-not-same_rows-2 t c = turn-if (arm (turn t (goal.at.loop-left-preserved-else-not-same_rows-2 t c).In-Some) c.in-If.is)
    (assumed _ _ _ c.ask_condition.ensures
    c.answer-answers-in-If.ensures
    c.assume.ensures
    c.after-next-in-If.ensures)
    {r = c.if-inner-middle.side}
    (elim c.if-inner-middle.branch [
      | then-inner-middle w ↦ rw w.side-is w.walk-side.ensures
      | else-inner-middle w ↦ rw w.side-is (empty-walks _ _ _ _ _ _ _ _ _ _ _ w.if-inner-middle.false)
    ])
    c.in-Ok-then_verdict.is c.negated.ensures
    (assumed _ _ _ (negated-asked _ _ c.negated.ensures
    c.ask_condition.ensures) c.answer-answers-in-If.ensures c.assume-in-If.ensures
    c.after-next-in-If-2.ensures)
    {o = settled c.if-middle-rest.now}
    (elim c.if-middle-rest.branch [
      | then-middle-rest+in-Ok-other_verdict w ↦ rw w.now-is (settled-walks w.walk-now.ensures w.in-Ok-other_verdict.is)
      | else-middle-rest w ↦ rw w.now-is (empty-walks _ _ _ _ _ _ _ _ _ _ _ w.if-middle-rest.false)
    ]) refl c.same_rows.ensures
    (c.if-not-same_rows.false)
    c.requires.1.pointers c.join-next.ensures
    (same-force (turn t (goal.at.loop-left-preserved-else-not-same_rows-2 t c).In-Some).so_far.forced c.same_rows-in-If.ensures (c.if-not-same_rows-2.false))

pub overflow_add-rest-in-While : goal.overflow_add-rest-in-While
overflow_add-rest-in-While t c = let u = (arm (turn t (goal.at.overflow_add-rest-in-While t c).In-Some) c.in-While.is) in omega (arith, placed u, while-count u)

pub check_entries-before-requires : goal.check_entries-before-requires
check_entries-before-requires t c = (
  c.requires.4,
  omega (arith, placed (turn t (goal.at.check_entries-before-requires t c).In-Some)),
)

pub returns-in_default-before : goal.returns-in_default-before
returns-in_default-before t c = before-refused (arm (turn t (goal.at.returns-in_default-before t c).In-Some)
    c.in-While.is) c.check_entries-before.ensures refl
    c.in_default-before.is

pub lose-next-requires : goal.lose-next-requires
lose-next-requires t c = let u = (arm (turn t (goal.at.lose-next-requires t c).In-Some) c.in-While.is) in omega
    (arith, placed u, while-count u)

pub assume_within-next-requires : goal.assume_within-next-requires
assume_within-next-requires t c = (
  c.requires.4,
  omega (
    arith,
    placed (turn t (goal.at.assume_within-next-requires t c).In-Some),
  ),
)

pub ask_condition-requires-in-While : goal.ask_condition-requires-in-While
ask_condition-requires-in-While t c = while-offset
    (arm (turn t (goal.at.ask_condition-requires-in-While t c).In-Some)
    c.in-While.is)

pub assume-requires-in-While : goal.assume-requires-in-While
assume-requires-in-While t c = while-offset
    (arm (turn t (goal.at.assume-requires-in-While t c).In-Some)
    c.in-While.is)

pub walk-side-requires-in-While : goal.walk-side-requires-in-While
walk-side-requires-in-While t c = (
  left-falls (turn t (goal.at.walk-side-requires-in-While t c).In-Some)
      c.decreases,
  (
    c.requires.0,
    c.requires.1,
    (turn t (goal.at.walk-side-requires-in-While t c).In-Some).so_far.forced,
    let u = (arm (turn t (goal.at.walk-side-requires-in-While t c).In-Some)
        c.in-While.is) in body-placed u.read (at-node u),
    c.requires.4,
  ),
)

pub returns-in_default-body_verdict : goal.returns-in_default-body_verdict
returns-in_default-body_verdict t c = body_refused (arm (turn t (goal.at.returns-in_default-body_verdict t c).In-Some)
    c.in-While.is)
    c.check_entries-before.ensures
    c.in-Ok-before.is
    c.lose-next.ensures (elim c.if-listed-gt0.branch [
      | then-listed-gt0 w ↦ ap (λ (r : Walked). r.facts) w.now-is ∙ w.assume_within-next.ensures
      | else-listed-gt0 w ↦ ap (λ (r : Walked). r.facts) w.now-is ∙ no-entries _ _ _ w.if-listed-gt0.false
    ]) (assumed _ _ _ c.ask_condition-in-While.ensures c.answer-head.ensures c.assume-in-While.ensures
    c.after-next-in-While.ensures) c.walk-side-in-While.ensures c.in_default-body_verdict.is

pub check_entries-again-requires : goal.check_entries-again-requires
check_entries-again-requires t c = (
  c.requires.4,
  omega (
    arith,
    placed (turn t (goal.at.check_entries-again-requires t c).In-Some),
  ),
)

pub returns-in_default-again : goal.returns-in_default-again
returns-in_default-again t c = again-refused (arm
    (turn t (goal.at.returns-in_default-again t c).In-Some) c.in-While.is)
    c.check_entries-before.ensures
    c.in-Ok-before.is
    c.lose-next.ensures
    (elim c.if-listed-gt0.branch [
      | then-listed-gt0 w ↦ ap (λ (r : Walked). r.facts) w.now-is ∙ w.assume_within-next.ensures
      | else-listed-gt0 w ↦ ap (λ (r : Walked). r.facts)
          w.now-is ∙ no-entries _ _ _ w.if-listed-gt0.false
    ])
    (assumed _ _ _ c.ask_condition-in-While.ensures
    c.answer-head.ensures
    c.assume-in-While.ensures
    c.after-next-in-While.ensures)
    c.walk-side-in-While.ensures c.in-Ok-body_verdict.is
    c.check_entries-again.ensures refl c.in_default-again.is

pub returns-then-not-same_rows-3 : goal.returns-then-not-same_rows-3
returns-then-not-same_rows-3 t c = ends-differ (arm
    (turn t (goal.at.returns-then-not-same_rows-3 t c).In-Some) c.in-While.is)
    c.check_entries-before.ensures
    c.in-Ok-before.is
    c.lose-next.ensures
    (elim c.if-listed-gt0.branch [
      | then-listed-gt0 w ↦ ap (λ (r : Walked). r.facts) w.now-is ∙ w.assume_within-next.ensures
      | else-listed-gt0 w ↦ ap (λ (r : Walked). r.facts) w.now-is ∙ no-entries _ _ _ w.if-listed-gt0.false
    ])
    (assumed _ _ _ c.ask_condition-in-While.ensures
    c.answer-head.ensures
    c.assume-in-While.ensures
    c.after-next-in-While.ensures)
    c.walk-side-in-While.ensures
    c.in-Ok-body_verdict.is c.check_entries-again.ensures
    c.in-Ok-again.is c.same_rows-in-While.ensures (not-true _
    c.if-not-same_rows-3.true-raw) refl

pub assume-otherwise-requires : goal.assume-otherwise-requires
assume-otherwise-requires t c = negated-offset _ _ c.negated-in-While.ensures
    (while-offset (arm
    (turn t (goal.at.assume-otherwise-requires t c).In-Some)
    c.in-While.is))

pub loop-left-smaller-in-While : goal.loop-left-smaller-in-While
loop-left-smaller-in-While t c = omega (
  arith,
  (turn t (goal.at.loop-left-smaller-in-While t c).In-Some).some,
)

pub loop-left-preserved-in-While : goal.loop-left-preserved-in-While
loop-left-preserved-in-While t c = turn-while (arm
    (turn t (goal.at.loop-left-preserved-in-While t c).In-Some) c.in-While.is)
    c.check_entries-before.ensures
    c.in-Ok-before.is c.lose-next.ensures
    (elim c.if-listed-gt0.branch [
      | then-listed-gt0 w ↦ ap (λ (r : Walked). r.facts) w.now-is ∙ w.assume_within-next.ensures
      | else-listed-gt0 w ↦ ap (λ (r : Walked). r.facts) w.now-is ∙ no-entries _ _ _ w.if-listed-gt0.false
    ])
    (assumed _ _ _ c.ask_condition-in-While.ensures c.answer-head.ensures
    c.assume-in-While.ensures
    c.after-next-in-While.ensures) c.walk-side-in-While.ensures
    c.in-Ok-body_verdict.is
    c.check_entries-again.ensures c.in-Ok-again.is
    c.same_rows-in-While.ensures (c.if-not-same_rows-3.false)
    c.negated-in-While.ensures
    (assumed _ _ _ (negated-asked _ _ c.negated-in-While.ensures
    c.ask_condition-in-While.ensures)
    c.answer-head.ensures c.assume-otherwise.ensures c.after-next-in-While-2.ensures)

pub overflow_add-rest-in-Bundle : goal.overflow_add-rest-in-Bundle
overflow_add-rest-in-Bundle t c = let u = (arm (turn t (goal.at.overflow_add-rest-in-Bundle t c).In-Some) c.in-Bundle.is)
    in omega (arith, placed u, bundle-count u)

pub walk_bundle-now-requires : goal.walk_bundle-now-requires
walk_bundle-now-requires t c = (
  c.requires.0,
  omega (arith, placed (turn t (goal.at.walk_bundle-now-requires t c).In-Some)),
  c.requires.1,
  (turn t (goal.at.walk_bundle-now-requires t c).In-Some).so_far.forced,
)

pub returns-in_default-held_verdict : goal.returns-in_default-held_verdict
returns-in_default-held_verdict t c = bundle-refused (arm (turn t (goal.at.returns-in_default-held_verdict t c).In-Some) c.in-Bundle.is)
    c.walk_bundle-now.ensures c.in_default-held_verdict.is

pub loop-left-smaller-then-not-same_rows-4 : goal.loop-left-smaller-then-not-same_rows-4
loop-left-smaller-then-not-same_rows-4 t c = omega (arith, (turn t (goal.at.loop-left-smaller-then-not-same_rows-4 t c).In-Some).some)

pub loop-left-preserved-then-not-same_rows-4 : goal.loop-left-preserved-then-not-same_rows-4
loop-left-preserved-then-not-same_rows-4 t c = turn-bundle (arm (turn t (goal.at.loop-left-preserved-then-not-same_rows-4 t c).In-Some)
    c.in-Bundle.is)
    c.walk_bundle-now.ensures c.in-Ok-held_verdict.is
    c.put_in_force-then-not-same_rows-4.ensures

pub loop-left-smaller-else-not-same_rows-4 : goal.loop-left-smaller-else-not-same_rows-4
loop-left-smaller-else-not-same_rows-4 t c = omega (arith, (turn t (goal.at.loop-left-smaller-else-not-same_rows-4 t c).In-Some).some)

pub loop-left-preserved-else-not-same_rows-4 : goal.loop-left-preserved-else-not-same_rows-4
loop-left-preserved-else-not-same_rows-4 t c = turn-bundle (arm (turn t (goal.at.loop-left-preserved-else-not-same_rows-4 t c).In-Some)
    c.in-Bundle.is) c.walk_bundle-now.ensures
    c.in-Ok-held_verdict.is
    (same-force (turn t (goal.at.loop-left-preserved-else-not-same_rows-4 t c).In-Some).so_far.forced c.same_rows-in-Bundle.ensures
    (c.if-not-same_rows-4.false))

pub returns-in_default-verdict-3 : goal.returns-in_default-verdict-3
returns-in_default-verdict-3 t c = call-refused (arm (turn t (goal.at.returns-in_default-verdict-3 t c).In-Some)
    c.in-Call.is) c.check_call-verdict.ensures refl
    c.in_default-verdict-3.is

pub loop-left-smaller : goal.loop-left-smaller
loop-left-smaller t c = omega (arith, (turn t (goal.at.loop-left-smaller t c).In-Some).some)

pub loop-left-preserved : goal.loop-left-preserved
loop-left-preserved t c = turn-call (arm (turn t (goal.at.loop-left-preserved t c).In-Some) c.in-Call.is)
    c.check_call-verdict.ensures c.in-Ok-verdict-2.is c.drop_result-next.ensures

pub returns : goal.returns
returns t c = elim c.loop-left-test.branch [
  | else-loop-left-test w ↦ kept-done c.loop-left.invariant w.loop-left-test.false refl refl refl refl
  | then-loop-left-test+then-at-end w ↦ kept-end c.loop-left.invariant w.if-at-end.true refl refl refl refl
]
