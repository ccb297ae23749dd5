use Prim.Native.Nat.{◌-◌}
use mathlib.Core.Path.{sym, ◌∙◌}
use native.Mathlib.Omega.{arith}
use Rattle.rewalks.specs.Stops.{stop-first, stop-more}
use Rattle.rewalks.proofs.walking.next_stop.Goals as goal

pub overflow_add-stop : goal.overflow_add-stop
overflow_add-stop c = omega (arith, c.span.ensures.2, c.requires.0, c.requires.1)

pub loop-stop-init : goal.loop-stop-init
loop-stop-init c = stop-first _ c.requires.2 c.requires.0 c.span.ensures.0

pub returns-then-is_named : goal.returns-then-is_named
returns-then-is_named c = c.loop-stop.invariant

pub overflow_add-stop-in-loop-stop : goal.overflow_add-stop-in-loop-stop
overflow_add-stop-in-loop-stop c = omega (arith, c.span-stop.ensures.2, c.loop-stop-test.true, c.requires.1)

pub loop-stop-smaller : goal.loop-stop-smaller
loop-stop-smaller c = omega (arith, c.span-stop.ensures.1, c.loop-stop-test.true)

pub loop-stop-preserved : goal.loop-stop-preserved
loop-stop-preserved c = stop-more _ c.loop-stop.invariant (sym c.is_named.ensures ∙ c.if-is_named.false)
    c.loop-stop-test.true c.span-stop.ensures.0

pub returns : goal.returns
returns c = c.loop-stop.invariant
