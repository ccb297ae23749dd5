use Rattle.std.specs.Prelude.{Some}
use mathlib.Core.Path.{sym, ap, ◌∙◌}
use Rattle.std.proofs.lemmas.Result.{err_from_is_err_and}
use native.Mathlib.Omega.{arith}
use Rattle.blocks.specs.LayoutLaws.{none-refused, bundle-within}
use Rattle.blocks.specs.PartsLaws.{part-unread, part-deep, part-plain, part-call, part-if, part-while, part-bundle-refused, part-bundle}
use Rattle.blocks.proofs.read_parts.Goals as goal

pub returns-in_default : goal.returns-in_default
returns-in_default c = part-unread _ _ _ _ _ c.requires (sym c.read_statement.ensures ∙ c.in_default.is)

pub returns-then-depth-gt-MAX_DEPTH : goal.returns-then-depth-gt-MAX_DEPTH
returns-then-depth-gt-MAX_DEPTH c = part-deep _ _ _ _ _ c.requires
    (sym c.read_statement.ensures ∙ c.in-Some.is) c.if-depth-gt-MAX_DEPTH.true

pub overflow_add-result-in-Bundle-2 : goal.overflow_add-result-in-Bundle-2
overflow_add-result-in-Bundle-2 c = omega (arith, bundle-within _ _ _ _ _ (none-refused _ _ c.lay_bundle.ensures c.in_ok-lay_bundle-in-Bundle.was))

pub returns-in-Plain : goal.returns-in-Plain
returns-in-Plain c = part-plain _ _ _ _ _ c.requires c.if-depth-gt-MAX_DEPTH.false
    (sym c.read_statement.ensures ∙ (c.in-Some.is ∙ ap Some c.in-Plain.is))

pub returns-in-If : goal.returns-in-If
returns-in-If c = rw c.split.ensures
    (part-if _ _ _ _ _ c.requires c.if-depth-gt-MAX_DEPTH.false
    (sym c.read_statement.ensures ∙ (c.in-Some.is ∙ ap Some c.in-If.is)))

pub returns-in-While : goal.returns-in-While
returns-in-While c = rw c.split-in-While.ensures
    (part-while _ _ _ _ _ c.requires c.if-depth-gt-MAX_DEPTH.false
    (sym c.read_statement.ensures ∙ (c.in-Some.is ∙ ap Some c.in-While.is)))

pub returns-in_err-lay_bundle-in-Bundle : goal.returns-in_err-lay_bundle-in-Bundle
returns-in_err-lay_bundle-in-Bundle c = let p = err_from_is_err_and c.from_residual.result c.from_residual.ensures.1 in rw (p.1, p.2)
    (part-bundle-refused _ _ _ _ _ c.requires c.if-depth-gt-MAX_DEPTH.false
    (sym c.read_statement.ensures ∙ (c.in-Some.is ∙ ap Some c.in-Bundle.is)) c.lay_bundle.ensures
    c.in_err-lay_bundle-in-Bundle.was)

pub returns-in_ok-lay_bundle-in-Bundle : goal.returns-in_ok-lay_bundle-in-Bundle
returns-in_ok-lay_bundle-in-Bundle c = part-bundle _ _ _ _ _ c.requires c.if-depth-gt-MAX_DEPTH.false
    (sym c.read_statement.ensures ∙ (c.in-Some.is ∙ ap Some c.in-Bundle.is)) c.lay_bundle.ensures
    c.in_ok-lay_bundle-in-Bundle.was

pub returns-in-Call : goal.returns-in-Call
returns-in-Call c = part-call _ _ _ _ _ c.requires c.if-depth-gt-MAX_DEPTH.false
    (sym c.read_statement.ensures ∙ (c.in-Some.is ∙ ap Some c.in-Call.is))
