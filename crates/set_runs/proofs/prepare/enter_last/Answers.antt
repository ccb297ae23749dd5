-- `set_runs::prepare::enter_last` meets its contract.
use mathlib.Core.Path.{refl}
use native.Mathlib.Omega.{arith}
use Rattle.rules.specs.EnvironmentLaws.{sizes-small}
use Rattle.set_runs.specs.PrepareLaws.{some-lengths, holds-taken, entered-last}
use Rattle.set_runs.proofs.prepare.enter_last.Goals as goal

pub overflow_sub-last : goal.overflow_sub-last
overflow_sub-last c = omega (arith, some-lengths _ _ c.requires.0)

pub put_member-count-requires : goal.put_member-count-requires
put_member-count-requires c = (c.requires.0, omega (arith, some-lengths _ _ c.requires.0), c.requires.1)

pub slice_bounds-sections_of-end : goal.slice_bounds-sections_of-end
slice_bounds-sections_of-end c = c.put_member-count.ensures.within

pub slice_bounds-sections_of-end-2 : goal.slice_bounds-sections_of-end-2
slice_bounds-sections_of-end-2 c = holds-taken c.put_member-count.ensures

pub slice_bounds-read_environment-end : goal.slice_bounds-read_environment-end
slice_bounds-read_environment-end c = c.put_member-count.ensures.within

pub slice_bounds-read_environment-end-2 : goal.slice_bounds-read_environment-end-2
slice_bounds-read_environment-end-2 c = holds-taken c.put_member-count.ensures

pub enter-requires : goal.enter-requires
enter-requires c = λ p. rw c.read_environment-environment.ensures (sizes-small _ _ p)

pub shape_of-member : goal.shape_of-member
shape_of-member c = c.put_member-count.ensures.long

pub returns : goal.returns
returns c = entered-last _ _ c.requires.0 _ _ _ _ refl
    c.put_member-count.ensures c.sections_of-sections.ensures
    c.read_environment-environment.ensures c.enter.ensures
