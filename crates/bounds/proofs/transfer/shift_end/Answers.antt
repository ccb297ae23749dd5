-- `bounds::transfer::shift_end` meets its contract.
use mathlib.Core.Path.{sym, ◌∙◌}
use Rattle.rules.specs.Stored.{shift_end}
use Rattle.rules.specs.BoundsRules as bounds_rules
use Rattle.bounds.proofs.transfer.shift_end.Goals as goal

pub returns-in_default : goal.returns-in_default
unfolding bounds_rules.shift_end
returns-in_default c = simp c.in_default.is

pub returns-then-end_names : goal.returns-then-end_names
unfolding bounds_rules.shift_end
returns-then-end_names c = simp (c.in-Some.is, sym c.end_names.ensures ∙ c.if-end_names.true)
    (rw c.weight_of.ensures at c.shift_constant.ensures)

pub returns : goal.returns
unfolding bounds_rules.shift_end
returns c = simp (c.in-Some.is, sym c.end_names.ensures ∙ c.if-end_names.false)
