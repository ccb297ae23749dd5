use Rattle.rules.specs.BoundsRules.{in_force}
use Rattle.bundles.specs.BundleLaws.{Held}
use Rattle.rules.specs.Verdict.{environment_of}
use Rattle.declared.specs.Force.{state_of}
use Rattle.bundles.proofs.walk_bundle.Given as goal

abbrev pub invariant-loop-left : goal.invariant-loop-left
invariant-loop-left l = Held l.table l.sections (environment_of l.table l.sections) l.head l.count (state_of l.initial.facts l.initial.rows.each)
    (in_force (environment_of l.table l.sections) l.initial.rows.each).declared l.initial.report.words l.at l.left l.facts l.rows.each l.seen l.known.each
    l.report.words

abbrev pub decreases-loop-left : goal.decreases-loop-left
decreases-loop-left l = l.left
