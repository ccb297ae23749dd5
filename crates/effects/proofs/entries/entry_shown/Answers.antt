-- `effects::entries::entry_shown` meets its contract.
use mathlib.Core.Path.{sym, ◌∙◌}
use Rattle.effects.specs.Entries.{entry_shown}
use Rattle.effects.proofs.entries.entry_shown.Goals as goal

pub returns-then-not-belongs : goal.returns-then-not-belongs
unfolding entry_shown
returns-then-not-belongs c = simp (sym c.belongs.ensures ∙ c.if-not-belongs.true)

pub returns : goal.returns
unfolding entry_shown
returns c = simp (sym c.belongs.ensures ∙ c.if-not-belongs.false, sym c.entry_at-entry.ensures)
    c.shows.ensures
