use Prim.Native.Nat.{◌-◌}
use mathlib.Core.Path.{◌∙◌}
use native.Mathlib.Omega.{arith}
use Rattle.plans.specs.PlanLaws.{placed_same, placed_end, plan-nowhere, plan-many, plan-large, plan-kind, insert-plan, replace-plan, remove-plan, unknown-plan}
use Rattle.plans.specs.PlanLaws.{insert-words, replace-words}
use Rattle.plans.proofs.plan_edit.Goals as goal

pub returns-then-not-is_placed : goal.returns-then-not-is_placed
returns-then-not-is_placed c = plan-nowhere _ _ _ _ _ _ _
    (placed_same _ _ _ _ _ _ c.is_placed.ensures c.removed_by-removed.ensures.0 (c.if-not-is_placed.true))

pub overflow_sub-left : goal.overflow_sub-left
overflow_sub-left c = omega (arith, placed_end _ _ _ _ _ c.is_placed.ensures (c.if-not-is_placed.false))

pub returns-then-words-left : goal.returns-then-words-left
returns-then-words-left c = plan-many _ _ _ _ _ _ _
    (placed_same _ _ _ _ _ _ c.is_placed.ensures c.removed_by-removed.ensures.0
    (c.if-not-is_placed.false)) c.removed_by-removed.ensures.0
    c.words_by-words.ensures (omega (arith, c.if-words-left.true))

pub overflow_sub-size : goal.overflow_sub-size
overflow_sub-size c = omega (
  arith,
  placed_end _ _ _ _ _ c.is_placed.ensures
      (c.if-not-is_placed.false),
  c.requires.2,
)

pub returns-then-size-room : goal.returns-then-size-room
returns-then-size-room c = plan-large _ _ _ _ _ _ _
    (placed_same _ _ _ _ _ _ c.is_placed.ensures
    c.removed_by-removed.ensures.0 (c.if-not-is_placed.false))
    c.removed_by-removed.ensures.0 c.words_by-words.ensures
    (omega (arith, c.if-words-left.false, c.requires.1.statements)) c.if-size-room.true

pub plan_text-requires : goal.plan_text-requires
plan_text-requires c = let u = insert-words c.in-Insert.is c.words_by-words.ensures in
    record {
      limits = c.requires.0;
      sizes = c.requires.1;
      within = omega arith;
      few = omega (arith, u, c.if-words-left.false);
    }

pub plan_text-requires-in-Replace : goal.plan_text-requires-in-Replace
plan_text-requires-in-Replace c = let u = replace-words c.in-Replace.is c.words_by-words.ensures in
    record {
      limits = c.requires.0;
      sizes = c.requires.1;
      within = omega arith;
      few = omega (arith, u, c.if-words-left.false);
    }

pub returns-in-Insert : goal.returns-in-Insert
returns-in-Insert c = c.plan_text.ensures
    ∙ (insert-plan c.in-Insert.is _ _ _ _
    ∙ plan-kind _ _ _ _ _ _ _
    (placed_same _ _ _ _ _ _ c.is_placed.ensures
    c.removed_by-removed.ensures.0
    (c.if-not-is_placed.false))
    c.removed_by-removed.ensures.0
    c.words_by-words.ensures
    (omega (
      arith,
      c.if-words-left.false,
      c.requires.1.statements,
    )) c.if-size-room.false)

pub returns-in-Replace : goal.returns-in-Replace
returns-in-Replace c = c.plan_text-in-Replace.ensures
    ∙ (replace-plan c.in-Replace.is _ _ _ _
    ∙ plan-kind _ _ _ _ _ _ _
    (placed_same _ _ _ _ _ _ c.is_placed.ensures
    c.removed_by-removed.ensures.0
    (c.if-not-is_placed.false))
    c.removed_by-removed.ensures.0
    c.words_by-words.ensures
    (omega (
      arith,
      c.if-words-left.false,
      c.requires.1.statements,
    )) c.if-size-room.false)

pub returns-in-Remove : goal.returns-in-Remove
returns-in-Remove c = remove-plan c.in-Remove.is _ _ _ _
    ∙ plan-kind _ _ _ _ _ _ _
    (placed_same _ _ _ _ _ _ c.is_placed.ensures
    c.removed_by-removed.ensures.0
    (c.if-not-is_placed.false))
    c.removed_by-removed.ensures.0
    c.words_by-words.ensures
    (omega (arith, c.if-words-left.false, c.requires.1.statements))
    c.if-size-room.false

pub returns-in-Unknown : goal.returns-in-Unknown
returns-in-Unknown c = unknown-plan c.in-Unknown.is _ _ _ _
    ∙ plan-kind _ _ _ _ _ _ _
    (placed_same _ _ _ _ _ _ c.is_placed.ensures
    c.removed_by-removed.ensures.0
    (c.if-not-is_placed.false))
    c.removed_by-removed.ensures.0
    c.words_by-words.ensures
    (omega (arith, c.if-words-left.false, c.requires.1.statements))
    c.if-size-room.false
