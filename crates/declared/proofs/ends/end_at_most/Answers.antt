-- `declared::ends::end_at_most` meets its contract.
use mathlib.Core.Path.{sym, ◌∙◌}
use Rattle.declared.specs.ShownLaws.{ends-equal}
use Rattle.rules.specs.BoundsRules as bounds_rules
use Rattle.declared.proofs.ends.end_at_most.Goals as goal

pub returns-then-not-comparable_ends : goal.returns-then-not-comparable_ends
unfolding bounds_rules.end_at_most
returns-then-not-comparable_ends c = simp (sym c.comparable_ends.ensures ∙ c.if-not-comparable_ends.true)

pub returns-then-eq : goal.returns-then-eq
unfolding bounds_rules.end_at_most
returns-then-eq c = simp (
  sym c.comparable_ends.ensures ∙ c.if-not-comparable_ends.false,
  sym (c.eq.ensures ∙ ends-equal c.args.a c.args.b) ∙ c.if-eq.true,
)

pub returns : goal.returns
unfolding bounds_rules.end_at_most
returns c = simp (
  sym c.comparable_ends.ensures
      ∙ c.if-not-comparable_ends.false,
  sym (c.eq.ensures ∙ ends-equal c.args.a c.args.b) ∙ c.if-eq.false,
) c.shows_end.ensures
