use Rattle.checker.specs.VerdictLaws.{measured}
use Rattle.table.specs.FormLaws.{well-formed}
use Rattle.editor.specs.CallLaws.{start-layout, start-walked}
use Rattle.editor.proofs.start_walk.Goals as goal

pub rewalk-walk-requires : goal.rewalk-walk-requires
rewalk-walk-requires c = let f = well-formed _ _ c.requires in
    (measured _ _ f.objects, f.limits.statements)

pub returns-in-Err : goal.returns-in-Err
returns-in-Err c = start-layout _ _ _ c.requires c.read_layout-layout.ensures
    c.in-Err.is c.refuse.ensures

pub returns-in-Ok : goal.returns-in-Ok
returns-in-Ok c = start-walked _ _ _ c.requires
    c.read_layout-layout.ensures
    c.in-Ok.is
    c.keep_first.ensures
    c.rewalk-walk.ensures c.answer_of.ensures
