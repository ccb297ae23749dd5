-- `declared::ends::address_safe` meets its contract.
use mathlib.Core.Path.{sym, ◌∙◌}
use Rattle.rules.specs.BoundsRules as bounds_rules
use Rattle.declared.proofs.ends.address_safe.Goals as goal

pub returns-then-not-shows : goal.returns-then-not-shows
unfolding bounds_rules.address_safe
returns-then-not-shows c = simp (sym c.shows.ensures ∙ c.if-not-shows.true)

pub returns-then-not-known_at_most : goal.returns-then-not-known_at_most
unfolding bounds_rules.address_safe
returns-then-not-known_at_most c = simp (
  sym c.shows.ensures ∙ c.if-not-shows.false,
  sym c.known_at_most.ensures
      ∙ c.if-not-known_at_most.true,
)

pub returns : goal.returns
unfolding bounds_rules.address_safe
returns c = simp (
  sym c.shows.ensures
      ∙ c.if-not-shows.false,
  sym c.known_at_most.ensures ∙ c.if-not-known_at_most.false,
)
    c.known_at_most-2.ensures
