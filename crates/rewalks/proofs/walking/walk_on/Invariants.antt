use Prim.Native.Nat.{◌-◌}
use Rattle.rules.specs.Verdict.{environment_of}
use Rattle.declared.specs.Force.{state_of, Forced}
use Rattle.rewalks.specs.Walking.{Going}
use Rattle.rewalks.proofs.walking.walk_on.Given as goal

abbrev pub invariant-loop-at : goal.invariant-loop-at
invariant-loop-at l = Going l.table l.sections l.keep l.from
    (state_of l.initial.now.facts l.initial.now.rows.each) l.initial.store l.at (state_of l.now.facts l.force.rows.each) l.store
    × Forced (environment_of l.table l.sections) l.force.rows.each l.force

abbrev pub decreases-loop-at : goal.decreases-loop-at
decreases-loop-at l = l.end - l.at
