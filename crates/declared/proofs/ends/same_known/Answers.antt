-- `declared::ends::same-known` meets its contract.
use mathlib.Core.Path.{◌∙◌}
use Rattle.declared.specs.ShownLaws.{ends-equal}
use Rattle.declared.specs.Shown.{same_known}
use Rattle.declared.proofs.ends.same_known.Goals as goal

pub returns-in_default : goal.returns-in_default
unfolding same_known
returns-in_default c = simp c.in_default.is

pub returns-in_default-b : goal.returns-in_default-b
unfolding same_known
returns-in_default-b c = simp (c.in-Some.is, c.in_default-b.is)

pub returns : goal.returns
unfolding same_known
returns c = simp (c.in-Some.is, c.in-Some-b.is) (c.eq.ensures ∙ ends-equal c.in-Some.e c.in-Some-b.g)
