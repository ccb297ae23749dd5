-- `declared::ends::bounds_shown` meets its contract.
use mathlib.Core.Path.{sym, ◌∙◌}
use mathlib.Core.Logic.{inl, inr, ⊎_elim}
use Rattle.declared.specs.ShownLaws.{ends-shown, null-shown}
use Rattle.declared.proofs.ends.bounds_shown.Goals as goal
use Rattle.declared.proofs.ends.bounds_shown.Goals.{else-known_at_most, then-known_at_most+else-known_at_most-2}

pub returns-then-known_at_most-2 : goal.returns-then-known_at_most-2
returns-then-known_at_most-2 c = sym (ends-shown _ _ _ _ (sym c.known_at_most.ensures ∙ c.if-known_at_most.true)
    (sym c.known_at_most-then-known_at_most.ensures ∙ c.if-known_at_most-2.true))

pub returns : goal.returns
returns c = null-shown _ _ _ _
    (elim c.if-known_at_most.branch [
      | then-known_at_most+else-known_at_most-2 w ↦ inr (sym w.known_at_most-then-known_at_most.ensures ∙ w.if-known_at_most-2.false)
      | else-known_at_most w ↦ inl (sym c.known_at_most.ensures ∙ w.if-known_at_most.false)
    ])
    c.shows.ensures
