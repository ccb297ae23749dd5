-- `effects::loops::mark_target` meets its contract.
use borrow.Author.Rules.{rules}
use Rattle.effects.specs.Marks.{marked}
use Rattle.effects.specs.MarkLaws.{read-target, read_past}
use Rattle.effects.proofs.loops.mark_target.Goals as goal

pub returns-in_default : goal.returns-in_default
unfolding marked
returns-in_default c = simp c.in_default.is

pub returns-then-target-lt16 : goal.returns-then-target-lt16
unfolding marked
returns-then-target-lt16 c = read-target _ c.in-Some.is c.assigned_by-target.ensures c.if-target-lt16.true

pub returns-else-target-lt16 : goal.returns-else-target-lt16
unfolding marked
returns-else-target-lt16 c = read_past _ c.in-Some.is c.assigned_by-target.ensures (search rules) c.if-target-lt16.false
