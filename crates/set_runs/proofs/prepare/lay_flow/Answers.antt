-- `set_runs::prepare::lay_flow` meets its contract: the routine's part of the room is lent to `write_successors`.
use native.Mathlib.Omega.{arith}
use Rattle.set_runs.specs.PrepareLaws.{few-lengths, holds-taken, flow-laid}
use Rattle.set_runs.proofs.prepare.lay_flow.Goals as goal

pub slice_bounds-sections_of-end : goal.slice_bounds-sections_of-end
slice_bounds-sections_of-end c = c.put_member-count.ensures.within

pub slice_bounds-sections_of-end-2 : goal.slice_bounds-sections_of-end-2
slice_bounds-sections_of-end-2 c = holds-taken c.put_member-count.ensures

pub overflow_mul-start : goal.overflow_mul-start
overflow_mul-start c = omega (arith, c.requires.1, few-lengths _ _ c.requires.0)

pub overflow_add-end : goal.overflow_add-end
overflow_add-end c = omega (arith, c.requires.1, few-lengths _ _ c.requires.0)

pub slice_bounds-write_successors-end : goal.slice_bounds-write_successors-end
slice_bounds-write_successors-end c = c.put_member-count.ensures.within

pub slice_bounds-write_successors-end-2 : goal.slice_bounds-write_successors-end-2
slice_bounds-write_successors-end-2 c = holds-taken c.put_member-count.ensures

pub offset_bounds-successors-start : goal.offset_bounds-successors-start
offset_bounds-successors-start c = omega (arith, c.requires.1, few-lengths _ _ c.requires.0)

pub slice_bounds-write_successors-end-3 : goal.slice_bounds-write_successors-end-3
slice_bounds-write_successors-end-3 c = omega (arith, c.requires.1, c.requires.3, few-lengths _ _ c.requires.0)

pub shape_of-member : goal.shape_of-member
shape_of-member c = c.put_member-count.ensures.long

pub returns : goal.returns
returns c = flow-laid _ _ c.requires.0 _ c.requires.1
    c.put_member-count.ensures
    c.sections_of-sections.ensures c.requires.3 c.write_successors.ensures
