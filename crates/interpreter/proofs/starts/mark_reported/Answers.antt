-- `interpreter::starts::mark_reported` meets its contract: each turn marks one statement more.
use Prim.Native.Nat.{ℕ}
use mathlib.Core.Path.{◌≡◌, refl, ap, ◌∙◌}
use native.Mathlib.Omega.{arith}
use Rattle.interpreter.specs.Marks.{marks}
use Rattle.interpreter.specs.MarksLaws.{marks-more}
use Rattle.interpreter.proofs.starts.mark_reported.Goals as goal

pub loop-at-init : goal.loop-at-init
unfolding marks
loop-at-init c = refl

pub loop-at-preserved : goal.loop-at-preserved
unfolding marks
loop-at-preserved c = marks-more c.args.report.words c.args.successors.now c.loop-at.at c.loop-at.invariant c.has.ensures c.mark_one.ensures

pub returns : goal.returns
unfolding marks
returns c = let e : c.loop-at.at ≡ c.args.count = omega (arith, c.loop-at-test.false, c.loop-at.auto.at-end) in
    c.loop-at.invariant ∙ ap (λ (n : ℕ). marks c.args.report.words n c.args.successors.now) e
