-- `rounds::take_turns` meets its contract.
use Prim.Native.Nat.{◌-◌}
use mathlib.Core.Path.{sym, ◌∙◌}
use native.Mathlib.Omega.{arith}
use Rattle.rounds.specs.LoopLaws.{product-fits, loop-starts, turn-within, code-asks, code-grows, code-made, code-turns, loop-idle, loop-ends}
use Rattle.rounds.proofs.take_turns.Goals as goal

pub overflow_mul-limit : goal.overflow_mul-limit
overflow_mul-limit c = let p = product-fits c.args.count
    c.args.total (omega
    (arith, c.requires.counted, c.requires.few))
    (omega arith) in omega arith

pub loop-taken-init : goal.loop-taken-init
loop-taken-init c = loop-starts c.requires

pub shape_of-cells-then-idle-count : goal.shape_of-cells-then-idle-count
shape_of-cells-then-idle-count c = c.loop-taken.invariant.standing.cells-long

pub shape_of-values-then-idle-count : goal.shape_of-values-then-idle-count
shape_of-values-then-idle-count c = c.loop-taken.invariant.standing.values-long

pub shape_of-ends-then-idle-count : goal.shape_of-ends-then-idle-count
shape_of-ends-then-idle-count c = c.loop-taken.invariant.standing.ends-long
    ∙ sym c.requires.standing.ends-long

pub returns-then-idle-count : goal.returns-then-idle-count
returns-then-idle-count c = loop-idle c.requires c.loop-taken.invariant c.if-idle-count.true

pub offset_bounds-seats-next : goal.offset_bounds-seats-next
offset_bounds-seats-next c = omega (
  arith,
  turn-within c.requires
      c.loop-taken.invariant,
  c.requires.counted,
  c.requires.few,
)

pub bounds-seats-next : goal.bounds-seats-next
bounds-seats-next c = omega (
  arith,
  turn-within c.requires
      c.loop-taken.invariant,
  c.requires.counted,
  c.requires.few,
)

pub take_turn-outcome-requires-clause-in_place : goal.take_turn-outcome-requires-clause-in_place
take_turn-outcome-requires-clause-in_place c = (code-asks c.requires c.loop-taken.invariant
    c.allowance-granted.ensures (omega arith)).0

pub take_turn-outcome-requires-clause-may_turn : goal.take_turn-outcome-requires-clause-may_turn
take_turn-outcome-requires-clause-may_turn c = (code-asks c.requires c.loop-taken.invariant
    c.allowance-granted.ensures (omega arith)).1

pub overflow_sub-made : goal.overflow_sub-made
overflow_sub-made c = code-grows c.requires
    c.loop-taken.invariant c.take_turn-outcome.result
    c.take_turn-outcome.new.ends
    c.take_turn-outcome.new.values
    c.take_turn-outcome.new.cells
    c.allowance-granted.ensures c.steps_of.ensures
    c.steps_of-in-loop-taken.ensures
    c.take_turn-outcome.ensures

pub overflow_sub-left : goal.overflow_sub-left
overflow_sub-left c = code-made c.requires
    c.loop-taken.invariant c.take_turn-outcome.result
    c.take_turn-outcome.new.ends
    c.take_turn-outcome.new.values
    c.take_turn-outcome.new.cells
    c.allowance-granted.ensures c.steps_of.ensures
    c.steps_of-in-loop-taken.ensures
    c.take_turn-outcome.ensures

pub offset_bounds-seats-next-in-loop-taken : goal.offset_bounds-seats-next-in-loop-taken
offset_bounds-seats-next-in-loop-taken c = omega (
  arith,
  turn-within c.requires
      c.loop-taken.invariant,
  c.requires.counted,
  c.requires.few,
)

pub bounds-seats-next-in-loop-taken : goal.bounds-seats-next-in-loop-taken
bounds-seats-next-in-loop-taken c = omega (
  arith,
  turn-within c.requires
      c.loop-taken.invariant,
  c.requires.counted,
  c.requires.few,
)

pub idle_after-idle-requires : goal.idle_after-idle-requires
idle_after-idle-requires c = omega (
  arith,
  c.if-idle-count.false,
  c.requires.counted,
  c.requires.few,
)

pub following_turn-next-requires : goal.following_turn-next-requires
following_turn-next-requires c = turn-within c.requires
    c.loop-taken.invariant

pub loop-taken-preserved : goal.loop-taken-preserved
loop-taken-preserved c = code-turns c.requires
    c.loop-taken.invariant c.take_turn-outcome.result
    c.take_turn-outcome.new.ends
    c.take_turn-outcome.new.values
    c.take_turn-outcome.new.cells
    c.allowance-granted.ensures
    c.steps_of.ensures c.steps_of-in-loop-taken.ensures
    c.take_turn-outcome.ensures c.idle_after-idle.ensures
    c.following_turn-next.ensures
    c.loop-taken-test.true

pub shape_of-cells : goal.shape_of-cells
shape_of-cells c = c.loop-taken.invariant.standing.cells-long

pub shape_of-values : goal.shape_of-values
shape_of-values c = c.loop-taken.invariant.standing.values-long

pub shape_of-ends : goal.shape_of-ends
shape_of-ends c = c.loop-taken.invariant.standing.ends-long ∙ sym c.requires.standing.ends-long

pub returns : goal.returns
returns c = loop-ends c.requires c.loop-taken.invariant c.loop-taken-test.false
