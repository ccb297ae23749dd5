use Rattle.std.specs.Prelude.{Err, Result}
use Prim.Native.Nat.{◌/◌}
use mathlib.Core.Path.{sym, ap, ◌∙◌}
use lib.ListN.{length}
use Rattle.edits.specs.declared.TextFault.{TextFault}
use Rattle.plans.specs.Plans.{text_plan}
use Rattle.plans.proofs.plan_text.Goals as goal

pub returns-in-Ok : goal.returns-in-Ok
returns-in-Ok c = ap (λ (t : Result (Unit {0}) TextFault). text_plan c.args.at t c.args.removed (length c.args.text.now / 7)) (sym c.in-Ok.is
    ∙ c.check_text.ensures)

pub returns-in-Err-Record : goal.returns-in-Err-Record
returns-in-Err-Record c = ap (λ (t : Result (Unit {0}) TextFault). text_plan c.args.at t c.args.removed (length c.args.text.now / 7)) (sym
    (c.in-Err-Record.is ∙ ap Err c.in-Err-Record.field-0-is) ∙ c.check_text.ensures)

pub returns-in-Err-Layout : goal.returns-in-Err-Layout
returns-in-Err-Layout c = ap (λ (t : Result (Unit {0}) TextFault). text_plan c.args.at t c.args.removed (length c.args.text.now / 7)) (sym
    (c.in-Err-Layout.is ∙ ap Err c.in-Err-Layout.field-0-is) ∙ c.check_text.ensures)
