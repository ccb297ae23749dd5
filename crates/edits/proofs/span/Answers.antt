use Rattle.std.specs.Prelude.{Some}
use mathlib.Core.Path.{◌∙◌, sym, ap}
use native.Mathlib.Omega.{arith}
use Rattle.edits.specs.EditLaws.{span-unread, span-plain, span-if, span-while, span-bundle, span-call}
use Rattle.edits.proofs.span.Goals as goal

pub returns-in_default : goal.returns-in_default
returns-in_default c = span-unread _ _ _ (sym c.read_statement-got.ensures ∙ c.in_default.is)

pub overflow_add-result : goal.overflow_add-result
overflow_add-result c = omega (
  arith,
  (span-if _ _ _
      (sym c.read_statement-got.ensures ∙ c.in-Some.is
      ∙ ap Some c.in-If.is)).2,
)

pub overflow_add-result-in-If : goal.overflow_add-result-in-If
overflow_add-result-in-If c = omega (
  arith,
  (span-if _ _ _
      (sym c.read_statement-got.ensures ∙ c.in-Some.is
      ∙ ap Some c.in-If.is)).2,
)

pub overflow_add-result-in-While : goal.overflow_add-result-in-While
overflow_add-result-in-While c = omega (
  arith,
  (span-while _ _ _
      (sym c.read_statement-got.ensures ∙ c.in-Some.is
      ∙ ap Some c.in-While.is)).2,
)

pub overflow_add-result-in-Bundle : goal.overflow_add-result-in-Bundle
overflow_add-result-in-Bundle c = omega (
  arith,
  (span-bundle _ _ _
      (sym c.read_statement-got.ensures ∙ c.in-Some.is
      ∙ ap Some c.in-Bundle.is)).2,
)

pub returns-in-Plain : goal.returns-in-Plain
returns-in-Plain c = let e = sym c.read_statement-got.ensures ∙ c.in-Some.is in grind (arith, span-plain, span-call)

pub returns-in-If : goal.returns-in-If
returns-in-If c = span-if _ _ _ (sym c.read_statement-got.ensures ∙ c.in-Some.is
    ∙ ap Some c.in-If.is)

pub returns-in-While : goal.returns-in-While
returns-in-While c = span-while _ _ _
    (sym c.read_statement-got.ensures ∙ c.in-Some.is
    ∙ ap Some c.in-While.is)

pub returns-in-Bundle : goal.returns-in-Bundle
returns-in-Bundle c = span-bundle _ _ _
    (sym c.read_statement-got.ensures ∙ c.in-Some.is
    ∙ ap Some c.in-Bundle.is)
