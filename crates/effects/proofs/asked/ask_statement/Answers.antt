-- `effects::asked::ask_statement` meets its contract, kind by kind.
use mathlib.Core.Path.{◌∙◌}
use Rattle.effects.proofs.Variants.{nothing-asked}
use Rattle.effects.proofs.asked.ask_statement.Goals as goal

pub ask_condition-requires : goal.ask_condition-requires
ask_condition-requires c = rw c.in-Check.is at c.requires

pub returns-in-AddConstant : goal.returns-in-AddConstant
returns-in-AddConstant c = simp (c.in-AddConstant.is, c.ask_sum.ensures)

pub returns-in-Check : goal.returns-in-Check
returns-in-Check c = simp (c.in-Check.is, c.ask_condition.ensures)

pub returns-in_default : goal.returns-in_default
returns-in_default c = c.ask_nothing.ensures ∙ nothing-asked c.args.simple c.in_default.not-AddConstant c.in_default.not-Check
