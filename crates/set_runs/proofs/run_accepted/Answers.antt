-- `set_runs::run_accepted` meets its contract: the entry refuses, or the level of the last routine is the run.
use mathlib.Core.Path.{refl, sym, ◌∙◌}
use native.Mathlib.Omega.{arith}
use Rattle.interpreter.specs.ClaimLaws.{entered-none}
use Rattle.set_runs.specs.PrepareLaws.{some-lengths}
use Rattle.set_runs.specs.RunLaws.{level-asks, run-claim, entry-refuses, last-number}
use Rattle.set_runs.proofs.run_accepted.Goals as goal

pub overflow_sub-last : goal.overflow_sub-last
overflow_sub-last c = omega (arith, some-lengths _ _ c.requires.0)

pub run_routine-level-requires : goal.run_routine-level-requires
run_routine-level-requires c = level-asks _ _ _ _ _ _ c.requires.0
    (entered-none _ (sym c.enter_last-entry.ensures
    ∙ c.in-Ok.is))
    (λ x. omega (
      arith,
      c.slice_known-2-1.given x,
    ))
    (λ i. omega (
      arith,
      c.slice_known-1.given i,
    )) refl c.requires.2
    c.lay_flows.ensures

pub returns-in-Err : goal.returns-in-Err
returns-in-Err c = entry-refuses _ _ _ _ (last-number _ _) c.enter_last-entry.ensures c.in-Err.is

pub returns-in-Ok : goal.returns-in-Ok
returns-in-Ok c = rw
    c.outcome_of.ensures
    (run-claim _ _ _ _ _ _ c.requires.0
    (entered-none _ (sym
    c.enter_last-entry.ensures
    ∙ c.in-Ok.is))
    (λ x. omega (
      arith,
      c.slice_known-2-1.given x,
    ))
    (λ i. omega (
      arith,
      c.slice_known-1.given i,
    )) _
    c.lay_flows.new.successors
    c.run_routine-level.result refl
    c.run_routine-level.ensures)
