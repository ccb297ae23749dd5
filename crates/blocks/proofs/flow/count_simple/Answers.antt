-- The invariant: what is counted, and what is left to count, are the whole.
use Rattle.std.specs.Prelude.{Some}
use Prim.Native.Nat.{◌-◌, ◌+◌}
use mathlib.Core.Path.{sym, ap, ◌∙◌, ◌≡◌}
use native.Mathlib.Omega.{arith}
use Rattle.statements.specs.StatementLaws.{read-within}
use Rattle.blocks.specs.FlowLaws.{simples-none, simples-unread, simples-plain, simples-other}
use Rattle.blocks.proofs.flow.count_simple.Goals as goal

pub returns-in_default : goal.returns-in_default
returns-in_default c = let e = simples-unread (c.args.first + c.args.count - c.loop-at.at) _ _ _ (omega (arith, c.loop-at-test.true))
    (sym c.read_statement-got.ensures ∙ c.in_default.is) in omega (arith, c.loop-at.invariant, e)

pub returns-in_default-s : goal.returns-in_default-s
returns-in_default-s c = let e = simples-other (c.args.first + c.args.count - c.loop-at.at) _ _ _ (omega
    (arith, c.loop-at-test.true)) _ c.in_default-s.not-Plain
    (sym c.read_statement-got.ensures ∙ c.in-Some.is) in omega (arith, c.loop-at.invariant, e)

pub loop-at-preserved : goal.loop-at-preserved
loop-at-preserved c =
    let z : c.args.first + c.args.count - c.loop-at.at - 1 ≡ c.args.first + c.args.count - (c.loop-at.at + 1) = omega arith in
    let e = simples-plain (c.args.first + c.args.count - c.loop-at.at) _ _ _ (omega (arith, c.loop-at-test.true)) _
    (sym c.read_statement-got.ensures ∙ c.in-Some.is ∙ ap Some c.in-Plain.is) in
    omega (arith, c.loop-at.invariant, rw z at e)

pub returns : goal.returns
returns c = let e = simples-none _ _ _ _ (omega (arith, c.loop-at-test.false)) c.loop-at.invariant in omega (arith, e)
