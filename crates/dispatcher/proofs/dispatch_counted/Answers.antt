-- `dispatcher::dispatch_counted` meets its contract: a routine is refused, or all are ready.
use mathlib.Core.Path.{refl}
use Rattle.dispatcher.specs.DispatchLaws.{count-is, seated-ready, seated-refused, first-refusal}
use Rattle.dispatcher.proofs.dispatch_counted.Goals as goal

pub seat_all-prepared-requires : goal.seat_all-prepared-requires
seat_all-prepared-requires c = (
  count-is _ _ c.requires.0,
  c.requires.1,
  c.requires.2,
)

pub run_ready-requires : goal.run_ready-requires
run_ready-requires c = (
  c.requires.0,
  refl,
  seated-ready _ _ _ _ _ c.in-Ok.is
      c.seat_all-prepared.ensures,
)

pub returns-in-Err : goal.returns-in-Err
returns-in-Err c = first-refusal _ _ _ _
    c.requires.0 (seated-refused _ _ _ _ _ c.in-Err.is
    c.seat_all-prepared.ensures)
