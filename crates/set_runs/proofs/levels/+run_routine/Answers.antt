-- `run_routine`, which calls itself on a callee. The invariant: whatever callers wait beneath, the run of the set from here is the run from the level's start.
use Prim.Native.Nat.{ℕ, ◌-◌}
use mathlib.Core.Path.{refl, sym, ap, ◌∙◌}
use native.Mathlib.Omega.{arith}
use Rattle.statements.specs.declared.CallSite.{CallSite}
use Rattle.set_runs.specs.RoutineLaws.{few}
use Rattle.set_runs.specs.LevelLaws.{Calling, loop-starts, loop-asks, leaves-now, calls-now, number-few, call-within, statement-within, below, steps-left}
use Rattle.set_runs.specs.LevelLaws.{code_below, code-some, code-long, code-asks, code-halts, code-more, code-loops, taken-room, ends-back, code-taken}
use Rattle.set_runs.proofs.levels.+run_routine.Goals as goal
use Rattle.set_runs.proofs.levels.+run_routine.Goals.{In-Calls}

-- Where a call is due.
calling : (t : ℕ) (d : In-Calls t)
    → Calling d.args.tables.now
    d.args.lengths.now
    d.args.directory.now
    d.args.successors.now
    d.args.n
    d.args.limit
    d.args.made
    d.lay_routine.new.ends
    d.args.values.now
    d.args.cells.now
    d.stretch-outcome.result
    d.loop-level.steps
    d.in-Calls.before d.in-Calls.statement
    d.stretch-outcome.new.ends
    d.stretch-outcome.new.values
    d.stretch-outcome.new.cells
calling t d = calls-now _ _ _ _ _ _ _ _ _ _
    d.loop-level.invariant.0
    d.stretch-outcome.ensures d.pause_of-pause.ensures
    d.in-Calls.is d.stretch-outcome.auto.values
    d.stretch-outcome.auto.cells

pub lay_routine-requires : goal.lay_routine-requires
lay_routine-requires t c = (few c.requires.callable _ c.requires.known, c.requires.room)

pub overflow_mul-below : goal.overflow_mul-below
overflow_mul-below t c = let l = few c.requires.callable _ c.requires.known in omega
    (arith, l)

pub loop-level-init : goal.loop-level-init
loop-level-init t c = (
  loop-starts _ _ _ _ _ _ _ c.requires
      c.lay_routine.ensures,
  refl,
)

pub stretch-outcome-requires : goal.stretch-outcome-requires
stretch-outcome-requires t c = loop-asks _ _ _ _ _ _ _ _ _ _ c.loop-level.invariant.0

pub shape_of-ends-in-Leaves : goal.shape_of-ends-in-Leaves
shape_of-ends-in-Leaves t c = c.stretch-outcome.ensures.kept.long
    ∙ (c.loop-level.invariant.0.ends-long
    ∙ c.lay_routine.ensures.long)

pub shape_of-values-in-Leaves : goal.shape_of-values-in-Leaves
shape_of-values-in-Leaves t c = c.stretch-outcome.auto.values
    ∙ c.loop-level.invariant.0.values-long

pub shape_of-cells-in-Leaves : goal.shape_of-cells-in-Leaves
shape_of-cells-in-Leaves t c = c.stretch-outcome.auto.cells
    ∙ c.loop-level.invariant.0.cells-long

pub returns-in-Leaves : goal.returns-in-Leaves
returns-in-Leaves t c = leaves-now _ _ _ _ _ _ _ _ _ _
    c.loop-level.invariant.0
    c.stretch-outcome.ensures c.pause_of-pause.ensures
    c.in-Leaves.is

pub call_at-site-requires : goal.call_at-site-requires
call_at-site-requires t c = (
  number-few _ _ _ _ _ _ _ _ _ _ (calling t (goal.at.call_at-site-requires t c).In-Calls),
  call-within _ _ _ _ _ _ _ _ _ _ (calling t (goal.at.call_at-site-requires t c).In-Calls),
)

pub variables_of-count-requires : goal.variables_of-count-requires
variables_of-count-requires t c = omega (
  arith,
  number-few _ _ _ _ _ _ _ _ _ _ (calling t (goal.at.variables_of-count-requires t c).In-Calls),
  below _ _ _ _ _ _ _ _ _ _ (calling t (goal.at.variables_of-count-requires t c).In-Calls),
  ap
      (λ (s : CallSite). s.callee) c.call_at-site.ensures,
)

pub overflow_add-before : goal.overflow_add-before
overflow_add-before t c = omega (
  arith,
  steps-left _ _ _ _ _ _ _ _ _ _ (calling t (goal.at.overflow_add-before t c).In-Calls),
  c.well_formed,
)

pub slice_bounds-run_routine-end : goal.slice_bounds-run_routine-end
slice_bounds-run_routine-end t c = let p = calling t (goal.at.slice_bounds-run_routine-end t c).In-Calls in omega (arith, p.asks.room, p.ends-long)

pub slice_bounds-run_routine-end-in-Calls : goal.slice_bounds-run_routine-end-in-Calls
slice_bounds-run_routine-end-in-Calls t c = sym (taken-room _ _ _ _ _ _ _ _ _ _ (calling t (goal.at.slice_bounds-run_routine-end-in-Calls t c).In-Calls))

pub slice_bounds-called-end : goal.slice_bounds-called-end
slice_bounds-called-end t c = code-long _ _ _ _ _ _ _ _ _ _ (calling t (goal.at.slice_bounds-called-end t c).In-Calls) c.call_at-site.result
    c.variables_of-count.result c.called_values-called.result c.call_at-site.ensures
    c.variables_of-count.ensures c.called_values-called.ensures

pub slice_bounds-run_routine-end-in-Calls-2 : goal.slice_bounds-run_routine-end-in-Calls-2
slice_bounds-run_routine-end-in-Calls-2 t c = sym (code-taken _ _ _ _ _ _ _ _ _ _ (calling t (goal.at.slice_bounds-run_routine-end-in-Calls-2 t c).In-Calls)
    c.call_at-site.result c.variables_of-count.result
    c.called_values-called.result c.call_at-site.ensures
    c.variables_of-count.ensures c.called_values-called.ensures)

pub run_routine-level-requires : goal.run_routine-level-requires
run_routine-level-requires t c = let l = code_below _ _ _ _ _ _ _ _ _ _ (calling t (goal.at.run_routine-level-requires t c).In-Calls)
    c.call_at-site.result c.variables_of-count.result
    c.called_values-called.result c.call_at-site.ensures
    c.variables_of-count.ensures c.called_values-called.ensures in (
      omega (
        arith,
        l,
        c.decreases,
      ),
      code-asks _ _
          _ _ _ _ _ _ _ _ (calling t (goal.at.run_routine-level-requires t c).In-Calls)
          c.call_at-site.result c.variables_of-count.result
          c.called_values-called.result c.call_at-site.ensures
          c.variables_of-count.ensures c.called_values-called.ensures,
    )

pub shape_of-ends-in-Halts : goal.shape_of-ends-in-Halts
shape_of-ends-in-Halts t c = ends-back _ _ _ _ _ _ _ _ _ _
    (calling t (goal.at.shape_of-ends-in-Halts t c).In-Calls)
    c.run_routine-level.new.ends
    c.run_routine-level.auto.ends
    ∙ c.lay_routine.ensures.long

pub shape_of-values-in-Halts : goal.shape_of-values-in-Halts
shape_of-values-in-Halts t c = c.stretch-outcome.auto.values
    ∙ c.loop-level.invariant.0.values-long

pub shape_of-cells-in-Halts : goal.shape_of-cells-in-Halts
shape_of-cells-in-Halts t c = c.run_routine-level.auto.cells
    ∙ (c.stretch-outcome.auto.cells
    ∙ c.loop-level.invariant.0.cells-long)

pub returns-in-Halts : goal.returns-in-Halts
returns-in-Halts t c = code-halts _ _ _ _ _ _ _ _ _ _
    (calling t (goal.at.returns-in-Halts t c).In-Calls)
    c.call_at-site.result
    c.variables_of-count.result
    c.called_values-called.result
    c.call_at-site.ensures
    c.variables_of-count.ensures
    c.called_values-called.ensures _ _ _
    c.run_routine-level.ensures c.in-Halts.is

pub give_result-requires : goal.give_result-requires
give_result-requires t c = code-some _ _ _ _ _ _ _ _ _ _
    (calling t (goal.at.give_result-requires t c).In-Calls)
    c.call_at-site.result
    c.variables_of-count.result
    c.called_values-called.result
    c.call_at-site.ensures
    c.variables_of-count.ensures
    c.called_values-called.ensures

pub due_after-at-requires : goal.due_after-at-requires
due_after-at-requires t c = let p = calling t
    (goal.at.due_after-at-requires t c).In-Calls in (number-few _ _ _ _ _ _ _ _ _ _ p, statement-within _ _ _ _ _ _ _ _ _ _ p, p.asks.callable.flow-long)

pub loop-level-smaller : goal.loop-level-smaller
loop-level-smaller t c = let l = code-more _ _ _ _ _ _ _ _ _ _
    (calling t (goal.at.loop-level-smaller t c).In-Calls)
    c.call_at-site.result
    c.variables_of-count.result
    c.called_values-called.result
    c.call_at-site.ensures
    c.variables_of-count.ensures
    c.called_values-called.ensures _ _ _
    c.run_routine-level.ensures
    c.in-Returns.is in let p = calling t
    (goal.at.loop-level-smaller t c).In-Calls in omega (arith, l, p.later, steps-left _ _ _ _ _ _ _ _ _ _ p)

pub loop-level-preserved : goal.loop-level-preserved
loop-level-preserved t c = (
  code-loops _ _ _ _ _ _ _ _ _ _
      (calling t (goal.at.loop-level-preserved t c).In-Calls)
      c.call_at-site.result
      c.variables_of-count.result
      c.called_values-called.result
      c.call_at-site.ensures
      c.variables_of-count.ensures
      c.called_values-called.ensures _ _ _
      c.run_routine-level.ensures
      c.run_routine-level.new.ends
      c.in-Returns.is
      c.run_routine-level.auto.values
      c.run_routine-level.auto.ends
      c.due_after-at.ensures c.give_result.ensures c.give_result.auto.values
      c.run_routine-level.auto.cells,
  c.loop-level.invariant.1,
)
