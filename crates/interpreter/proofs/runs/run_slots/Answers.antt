-- `interpreter::runs::run_slots` meets its contract.
use Prim.Native.Nat.{◌+◌, ◌-◌}
use mathlib.Core.Path.{refl, ◌∙◌}
use native.Mathlib.Omega.{arith}
use Rattle.steps.specs.KeptLaws.{move-kept, move-sizes}
use Rattle.interpreter.specs.RunLaws.{carry, still-prepared, run-done, run-spent, safe-ready, run-go, safe-go, run-stop, run_call}
use Rattle.interpreter.proofs.runs.run_slots.Goals as goal

pub loop-at-init : goal.loop-at-init
loop-at-init c = (
  refl,
  c.requires.made_le_limit,
  c.requires.safe_run,
  c.requires.prepared,
  refl,
  refl,
  refl,
)

pub returns-then-steps-limit : goal.returns-then-steps-limit
returns-then-steps-limit c = carry c.loop-at.invariant.0 (run-spent _ _ _ _ _ _ _ _ _ _ c.loop-at-test.true (omega (arith, c.if-steps-limit.true)))

pub advance-said-requires-clause-prepared : goal.advance-said-requires-clause-prepared
advance-said-requires-clause-prepared c = c.loop-at.invariant.3

pub advance-said-requires-clause-ready : goal.advance-said-requires-clause-ready
advance-said-requires-clause-ready c = safe-ready _ _ _ _ _ _ 0 _ _ _ c.loop-at-test.true
    (c.args.limit -
    (c.loop-at.steps + 1))
    (omega (arith, c.if-steps-limit.false, c.loop-at.invariant.1))
    c.loop-at.invariant.2

pub loop-at-smaller : goal.loop-at-smaller
loop-at-smaller c = omega (
  arith,
  c.if-steps-limit.false,
  c.loop-at.invariant.1,
)

pub loop-at-preserved : goal.loop-at-preserved
loop-at-preserved c = (
  c.loop-at.invariant.0 ∙ run-go _ _ _ _ _ _ _ _ _ _
      c.loop-at-test.true
      (c.args.limit -
      (c.loop-at.steps +
      1))
      (omega (
        arith,
        c.if-steps-limit.false,
        c.loop-at.invariant.1,
      )) _ _ _ _
      c.advance-said.ensures _ c.in-Go.is,
  omega (arith, c.if-steps-limit.false),
  safe-go _ _ _ _ _ _ 0 _ _ _
      c.loop-at-test.true
      (c.args.limit -
      (c.loop-at.steps +
      1))
      (omega (
        arith,
        c.if-steps-limit.false,
        c.loop-at.invariant.1,
      )) _ _ _ _
      c.advance-said.ensures _ c.in-Go.is c.loop-at.invariant.2,
  still-prepared _ _ c.advance-said.auto.ends
      ((move-kept _ _ _ _ _ _ _ _ c.advance-said.ensures).small c.loop-at.invariant.3.small)
      (move-sizes _ _ _ _ _ _ _ _
      (safe-ready _ _ _ _ _ _ 0 _ _ _
      c.loop-at-test.true
      (c.args.limit -
      (c.loop-at.steps +
      1)) (omega (
        arith,
        c.if-steps-limit.false,
        c.loop-at.invariant.1,
      )) c.loop-at.invariant.2) c.advance-said.ensures c.loop-at.invariant.3.sizes)
      ((move-kept _ _ _ _ _ _ _ _ c.advance-said.ensures).named
      c.loop-at.invariant.3.named) c.advance-said.auto.values c.loop-at.invariant.3,
  c.advance-said.auto.ends ∙ c.loop-at.invariant.4,
  c.advance-said.auto.values ∙ c.loop-at.invariant.5,
  c.advance-said.auto.cells ∙ c.loop-at.invariant.6,
)

pub returns-in-Stop : goal.returns-in-Stop
returns-in-Stop c = carry c.loop-at.invariant.0
    (run-stop _ _ _ _ _ _ _ _ _ _
    c.loop-at-test.true
    (c.args.limit -
    (c.loop-at.steps + 1))
    (omega (
      arith,
      c.if-steps-limit.false,
      c.loop-at.invariant.1,
    )) _ _ _ _ c.advance-said.ensures _ c.in-Stop.is)

pub returns-in-Call : goal.returns-in-Call
returns-in-Call c = carry c.loop-at.invariant.0
    (run_call _ _ _ _ _ _ _ _ _ _ c.loop-at-test.true
    (c.args.limit -
    (c.loop-at.steps + 1)) (omega (
      arith,
      c.if-steps-limit.false,
      c.loop-at.invariant.1,
    )) _ _ _ _ c.advance-said.ensures c.in-Call.is)

pub returns : goal.returns
returns c = carry c.loop-at.invariant.0 (run-done _ _ _ _ _ _ _ _ _ _ c.loop-at-test.false)
