-- The invariant: the refusals of what is left are those of the whole.
use Rattle.std.specs.Prelude.{Some}
use mathlib.Core.Path.{refl, sym, ap, ◌∙◌, ◌≡◌}
use native.Mathlib.Omega.{arith}
use Rattle.statements.specs.StatementLaws.{read-within}
use Prim.Native.Nat.{◌+◌, ◌-◌}
use Rattle.blocks.specs.Parts.{verdict}
use Rattle.blocks.specs.LayoutLaws.{laid_out, contents-none, contents-unread, contents-plain, contents-other}
use Rattle.blocks.proofs.lay_contents.Goals as goal

pub returns-in_default : goal.returns-in_default
returns-in_default c = contents-unread _ _ _ _ _ (omega (arith, c.loop-at-test.true)) (sym c.read_statement-got.ensures ∙ c.in_default.is)
    ∙ ap verdict (sym c.loop-at.invariant)

pub returns-in_default-s : goal.returns-in_default-s
returns-in_default-s c = contents-other _ _ _ _ _ (omega (arith, c.loop-at-test.true)) _ _ c.in_default-s.not-Plain
    (sym c.read_statement-got.ensures ∙ c.in-Some.is) refl
    ∙ ap verdict (sym c.loop-at.invariant)

pub loop-at-preserved : goal.loop-at-preserved
loop-at-preserved c =
    let z : c.args.first + c.args.count - c.loop-at.at - 1 ≡ c.args.first + c.args.count - (c.loop-at.at + 1) = omega arith in
    rw z at (c.loop-at.invariant
    ∙ contents-plain _ _ _ _ _ (omega (arith, c.loop-at-test.true)) _
    (sym c.read_statement-got.ensures ∙ c.in-Some.is ∙ ap Some c.in-Plain.is))

pub returns : goal.returns
returns c = laid_out _ (c.loop-at.invariant ∙ contents-none _ _ _ _ _ (omega (arith, c.loop-at-test.false)))
