use Rattle.rules.specs.Stored.{bounds_after}
use Rattle.bounds.specs.Touched.{seen_as}
use Rattle.declared.specs.ShownLaws.{Passed}
use Rattle.declared.proofs.check_effect.Given as goal

abbrev pub invariant-loop-p : goal.invariant-loop-p
invariant-loop-p l = Passed (seen_as l.environment) l.facts (bounds_after l.effect l.environment.declared) l.p
