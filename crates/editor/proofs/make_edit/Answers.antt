use Prim.Native.Nat.{◌-◌}
use native.Mathlib.Omega.{arith}
use lib.ListN.{length-take}
use Rattle.words.specs.SectionsLaws.{limits}
use Rattle.edits.specs.EditedLaws.{limits-stay}
use Rattle.editor.specs.EditLaws.{room_after, buffer-table, edited-measured, made_by}
use Rattle.editor.proofs.make_edit.Goals as goal

pub end_of-end-requires : goal.end_of-end-requires
end_of-end-requires c = rw c.edited_sections-next.ensures
    (limits _ (limits-stay _ _ _ c.requires.0.limits
    c.requires.0.few))

pub slice_bounds-rewalk-end : goal.slice_bounds-rewalk-end
slice_bounds-rewalk-end c = omega
    (arith, rw c.edited_sections-next.ensures at c.end_of-end.ensures, room_after _ _ _ _ _ _ c.requires.0 c.write_edited.ensures)

pub slice_bounds-rewalk-end-2 : goal.slice_bounds-rewalk-end-2
slice_bounds-rewalk-end-2 c = simp length-take (omega
    (arith, rw c.edited_sections-next.ensures at c.end_of-end.ensures, room_after _ _ _ _ _ _ c.requires.0 c.write_edited.ensures))

pub rewalk-walk-requires : goal.rewalk-walk-requires
rewalk-walk-requires c = let t = buffer-table _ _ _ _ _ _ c.requires.0 c.write_edited.ensures
    (rw c.edited_sections-next.ensures at c.end_of-end.ensures) in
    (rw (c.edited_sections-next.ensures, t) (edited-measured _ _ _ _ _ _ c.requires.0 c.requires.3), rw c.edited_sections-next.ensures c.requires.0.few)

pub returns : goal.returns
returns c = made_by _ _ _ _ _ _ c.requires.0
    c.write_edited.ensures _ _ _
    (rw c.edited_sections-next.ensures at c.end_of-end.ensures) c.edited_sections-next.ensures
    c.keep_first.ensures
    c.rewalk-walk.ensures c.answer_of.ensures
