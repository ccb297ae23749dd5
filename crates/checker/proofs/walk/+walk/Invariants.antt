use Rattle.blocks.specs.Tree.{parse}
use Rattle.rules.specs.Verdict.{environment_of}
use Rattle.checker.specs.WalkLaws.{Kept}
use Rattle.declared.specs.Force.{state_of}
use Rattle.declared.specs.Callee.{callees_in}
use Rattle.checker.proofs.walk.+walk.Given as goal

abbrev pub invariant-loop-left : goal.invariant-loop-left
invariant-loop-left l = Kept l.table l.sections
    (environment_of l.table l.sections) l.listed (callees_in l.words l.callees) l.end l.allowed (parse l.allowed l.table l.sections l.first l.end)
    (state_of l.initial.now.facts l.initial.force.rows.each)
    l.initial.now.report.words l.at l.left l.now.facts l.force l.now.report.words

abbrev pub decreases-loop-left : goal.decreases-loop-left
decreases-loop-left l = l.left

abbrev pub decreases-walk : goal.decreases-walk
decreases-walk l = l.allowed
