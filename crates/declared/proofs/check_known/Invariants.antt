use Rattle.rules.specs.BoundsRules.{known}
use Rattle.bounds.specs.Touched.{seen_as}
use Rattle.declared.specs.ShownLaws.{Passed}
use Rattle.declared.proofs.check_known.Given as goal

abbrev pub invariant-loop-p : goal.invariant-loop-p
invariant-loop-p l = Passed (seen_as l.environment) l.facts l.known.each l.p
