-- `steps::advance` meets its contract.
use mathlib.Core.Path.{sym, ◌∙◌}
use native.Mathlib.Omega.{arith}
use Rattle.steps.specs.ReadyLaws.{ready-below, ready-start, ready-simple, ready-known, ready-if, ready-while, bare-plain, bare-if, bare-while, bare-bundle}
use Rattle.steps.specs.ReadyLaws.{bare-call}
use Rattle.steps.proofs.advance.Goals as goal

pub overflow_mul-at : goal.overflow_mul-at
overflow_mul-at c = omega (
  arith,
  ready-below _ _ _ _ _ _ _ c.requires.ready,
  c.requires.prepared.successors,
)

pub successor-next-requires : goal.successor-next-requires
successor-next-requires c = omega (
  arith,
  ready-below _ _ _ _ _ _ _ c.requires.ready,
  c.requires.prepared.successors,
)

pub decode_statement-s-requires : goal.decode_statement-s-requires
decode_statement-s-requires c = ready-start c.requires.prepared c.requires.ready

pub advance_simple-requires-clause-operable : goal.advance_simple-requires-clause-operable
advance_simple-requires-clause-operable c = ready-simple _ _ _ _ _ _ _ _ _ c.requires.prepared
    c.requires.ready
    (sym c.decode_statement-s.ensures ∙ c.in-Plain.is)

pub advance_simple-requires-clause-at_in_bounds : goal.advance_simple-requires-clause-at_in_bounds
advance_simple-requires-clause-at_in_bounds c = (
  omega (
    arith,
    ready-below _ _ _ _ _ _ _
        c.requires.ready,
    c.requires.prepared.successors,
  ),
  ready-known _ _ _ _ _ _ _ _
      c.requires.ready
      (sym c.decode_statement-s.ensures ∙ c.in-Plain.is),
)

pub overflow_mul-at-in-If : goal.overflow_mul-at-in-If
overflow_mul-at-in-If c = omega (
  arith,
  ready-below _ _ _ _ _ _ _ c.requires.ready,
  c.requires.prepared.successors,
)

pub overflow_add-at : goal.overflow_add-at
overflow_add-at c = omega (
  arith,
  ready-below _ _ _ _ _ _ _ c.requires.ready,
  c.requires.prepared.successors,
)

pub successor-other-requires : goal.successor-other-requires
successor-other-requires c = omega (
  arith,
  ready-below _ _ _ _ _ _ _ c.requires.ready,
  c.requires.prepared.successors,
)

pub branch-values-requires : goal.branch-values-requires
branch-values-requires c = ready-if _ _ _ _ _ _ _ _ _ _ c.requires.prepared.slots
    c.requires.ready
    (sym c.decode_statement-s.ensures ∙ c.in-If.is)

pub overflow_mul-at-in-While : goal.overflow_mul-at-in-While
overflow_mul-at-in-While c = omega (
  arith,
  ready-below _ _ _ _ _ _ _ c.requires.ready,
  c.requires.prepared.successors,
)

pub overflow_add-at-in-While : goal.overflow_add-at-in-While
overflow_add-at-in-While c = omega (
  arith,
  ready-below _ _ _ _ _ _ _ c.requires.ready,
  c.requires.prepared.successors,
)

pub successor-other-requires-in-While : goal.successor-other-requires-in-While
successor-other-requires-in-While c = omega (
  arith,
  ready-below _ _ _ _ _ _ _ c.requires.ready,
  c.requires.prepared.successors,
)

pub branch-values-requires-in-While : goal.branch-values-requires-in-While
branch-values-requires-in-While c = ready-while _ _ _ _ _ _ _ _ _ c.requires.prepared.slots
    c.requires.ready
    (sym c.decode_statement-s.ensures ∙ c.in-While.is)

pub returns-in-Plain : goal.returns-in-Plain
returns-in-Plain c = bare-plain _ _ _ _ _ _ _ _ _ _ _ _ _ _
    (sym c.decode_statement-s.ensures
    ∙ c.in-Plain.is)
    c.successor-next.ensures
    c.advance_simple.ensures

pub returns-in-If : goal.returns-in-If
returns-in-If c = bare-if _ _ _ _ _ _ _ _ _ _ _ _ _ _
    (sym c.decode_statement-s.ensures ∙ c.in-If.is)
    c.branch-values.ensures c.successor-next.ensures
    c.successor-other.ensures

pub returns-in-While : goal.returns-in-While
returns-in-While c = bare-while _ _ _ _ _ _ _ _ _ _ _ _ _
    (sym c.decode_statement-s.ensures ∙ c.in-While.is)
    c.branch-values-in-While.ensures c.successor-next.ensures
    c.successor-other-in-While.ensures

pub returns-in-Bundle : goal.returns-in-Bundle
returns-in-Bundle c = bare-bundle _ _ _ _ _ _ _ _ _ _ (sym c.decode_statement-s.ensures ∙ c.in-Bundle.is)
    c.successor-next.ensures

pub returns-in-Call : goal.returns-in-Call
returns-in-Call c = bare-call _ _ _ _ _ _ _ _ _ (sym c.decode_statement-s.ensures ∙ c.in-Call.is)
