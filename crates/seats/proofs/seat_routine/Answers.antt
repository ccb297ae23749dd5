-- `seats::seat_routine` meets its contract.
use Rattle.std.proofs.lemmas.Result.{err_from_is_err_and}
use native.Mathlib.Omega.{arith}
use Rattle.seats.specs.SeatsLaws.{scratch-long, seat-refused, seat-begun}
use Rattle.seats.proofs.seat_routine.Goals as goal

pub overflow_mul-ends_start : goal.overflow_mul-ends_start
overflow_mul-ends_start c = omega (arith, c.requires.0)

pub overflow_add-ends_end : goal.overflow_add-ends_end
overflow_add-ends_end c = omega (arith, c.requires.0)

pub overflow_mul-flow_start : goal.overflow_mul-flow_start
overflow_mul-flow_start c = omega (arith, c.requires.0)

pub overflow_add-flow_end : goal.overflow_add-flow_end
overflow_add-flow_end c = omega (arith, c.requires.0)

pub offset_bounds-tables-table_start : goal.offset_bounds-tables-table_start
offset_bounds-tables-table_start c = omega (arith, c.span_of-table.ensures.within.2)

pub slice_bounds-prepare-count : goal.slice_bounds-prepare-count
slice_bounds-prepare-count c = c.span_of-table.ensures.within.0

pub offset_bounds-listed-list_start : goal.offset_bounds-listed-list_start
offset_bounds-listed-list_start c = omega (arith, c.span_of-list.ensures.within.2)

pub slice_bounds-prepare-count-2 : goal.slice_bounds-prepare-count-2
slice_bounds-prepare-count-2 c = c.span_of-list.ensures.within.0

pub offset_bounds-directories-directory_start : goal.offset_bounds-directories-directory_start
offset_bounds-directories-directory_start c = omega (arith, c.span_of-directory.ensures.within.2)

pub slice_bounds-prepare-count-3 : goal.slice_bounds-prepare-count-3
slice_bounds-prepare-count-3 c = c.span_of-directory.ensures.within.0

pub offset_bounds-values-values_start : goal.offset_bounds-values-values_start
offset_bounds-values-values_start c = omega (arith, c.span_of-own.ensures.within.2)

pub slice_bounds-prepare-count-4 : goal.slice_bounds-prepare-count-4
slice_bounds-prepare-count-4 c = c.span_of-own.ensures.within.0

pub offset_bounds-origins-origins_start : goal.offset_bounds-origins-origins_start
offset_bounds-origins-origins_start c = omega (arith, c.span_of-origin.ensures.within.2)

pub slice_bounds-prepare-count-5 : goal.slice_bounds-prepare-count-5
slice_bounds-prepare-count-5 c = c.span_of-origin.ensures.within.0

pub offset_bounds-ends-ends_start : goal.offset_bounds-ends-ends_start
offset_bounds-ends-ends_start c = omega (
  arith,
  c.requires.0,
  c.requires.1,
)

pub slice_bounds-prepare-count-6 : goal.slice_bounds-prepare-count-6
slice_bounds-prepare-count-6 c = omega (
  arith,
  c.requires.0,
  c.requires.1,
)

pub slice_bounds-prepare-start-6 : goal.slice_bounds-prepare-start-6
slice_bounds-prepare-start-6 c = omega (
  arith,
  c.requires.0,
  c.requires.1,
)

pub slice_bounds-prepare-end-6 : goal.slice_bounds-prepare-end-6
slice_bounds-prepare-end-6 c = omega (
  arith,
  c.requires.0,
  c.requires.1,
)

pub offset_bounds-successors-flow_start : goal.offset_bounds-successors-flow_start
offset_bounds-successors-flow_start c = omega (
  arith,
  c.requires.0,
  c.requires.2,
)

pub slice_bounds-prepare-count-7 : goal.slice_bounds-prepare-count-7
slice_bounds-prepare-count-7 c = omega (
  arith,
  c.requires.0,
  c.requires.2,
)

pub slice_bounds-prepare-start-7 : goal.slice_bounds-prepare-start-7
slice_bounds-prepare-start-7 c = omega (
  arith,
  c.requires.0,
  c.requires.2,
)

pub slice_bounds-prepare-end-7 : goal.slice_bounds-prepare-end-7
slice_bounds-prepare-end-7 c = omega (
  arith,
  c.requires.0,
  c.requires.2,
)

pub prepare-requires : goal.prepare-requires
prepare-requires c = scratch-long _ _ _
    c.requires.0
    c.requires.1
    c.requires.2

pub returns-in_err-sections : goal.returns-in_err-sections
returns-in_err-sections c = let p = err_from_is_err_and c.from_residual.result c.from_residual.ensures.1 in rw (p.1, p.2) (seat-refused _ _
    c.requires.0
    c.span_of-table.ensures.value
    c.span_of-list.ensures.value
    c.span_of-directory.ensures.value
    c.span_of-own.ensures.value
    c.span_of-origin.ensures.value _ _ _ _
    c.requires.1
    c.requires.2
    c.prepare.auto.ends
    c.prepare.auto.successors c.in_err-sections.was
    c.prepare.ensures)

pub returns : goal.returns
returns c = seat-begun _ _ c.requires.0
    c.span_of-table.ensures.value
    c.span_of-list.ensures.value
    c.span_of-directory.ensures.value
    c.span_of-own.ensures.value
    c.span_of-origin.ensures.value _
    _ _ _
    c.requires.1
    c.requires.2
    c.prepare.auto.ends
    c.prepare.auto.successors c.in_ok-sections.was
    c.prepare.ensures c.first_outcome-outcome.ensures
