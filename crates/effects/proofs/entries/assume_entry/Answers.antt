-- `effects::entries::assume_entry` meets its contract.
use mathlib.Core.Path.{sym, ◌∙◌}
use Rattle.effects.proofs.entries.assume_entry.Goals as goal

pub returns-then-not-belongs : goal.returns-then-not-belongs
returns-then-not-belongs c = simp (sym c.belongs.ensures ∙ c.if-not-belongs.true)

pub returns : goal.returns
returns c = simp (sym c.belongs.ensures ∙ c.if-not-belongs.false, sym c.entry_at-entry.ensures)
    c.add.ensures
