use Prim.Native.Nat.{◌-◌}
use mathlib.Core.Path.{sym, ◌∙◌}
use native.Mathlib.Omega.{arith}
use lib.ListN.{length-take}
use Rattle.editor.specs.EditLaws.{table-head, up-to-within, plan-sizes}
use Rattle.editor.specs.CallLaws.{call-unread, call-refused, call-made}
use Rattle.editor.proofs.edit_table.Goals as goal

pub returns-in_default : goal.returns-in_default
returns-in_default c = call-unread _ _ _ _ _ _ c.read_head-head.ensures c.in_default.is c.refuse.ensures

pub end_of-size-requires : goal.end_of-size-requires
end_of-size-requires c = (table-head _ _ (sym c.read_head-head.ensures ∙ c.in-Some.is)).read.sizes

pub slice_bounds-prepare-end : goal.slice_bounds-prepare-end
slice_bounds-prepare-end c = let t = table-head _ _ (sym c.read_head-head.ensures ∙ c.in-Some.is) in omega
    (arith, c.end_of-size.ensures, t.fits)

pub slice_bounds-prepare-end-2 : goal.slice_bounds-prepare-end-2
slice_bounds-prepare-end-2 c = let t = table-head _ _ (sym c.read_head-head.ensures ∙ c.in-Some.is) in
    simp length-take (omega (arith, c.end_of-size.ensures, t.fits))

pub prepare-prepared-requires : goal.prepare-prepared-requires
prepare-prepared-requires c = let t = table-head _ _
    (sym c.read_head-head.ensures ∙ c.in-Some.is) in
    (t.read.limits, t.read.sizes, rw c.end_of-size.ensures t.read.long)

pub make_edit-requires : goal.make_edit-requires
make_edit-requires c = let t = table-head _ _
    (sym c.read_head-head.ensures
    ∙ c.in-Some.is) in
    let u = rw c.end_of-size.ensures at c.prepare-prepared.ensures in
    let f = plan-sizes _ _ _ _
    c.args.edit
    c.args.text.now _ _
    t (sym u.plan ∙ c.in-Ok.is) in (
      f.0,
      t.fits,
      f.1,
      t.read.lengths,
      omega (
        arith,
        u.held,
        up-to-within
            c.args.store.now
            c.args.at,
      ),
    )

pub returns-in-Ok : goal.returns-in-Ok
returns-in-Ok c = let t = table-head _ _
    (sym c.read_head-head.ensures ∙ c.in-Some.is) in
    let u = rw c.end_of-size.ensures at c.prepare-prepared.ensures in
    call-made _ _ _ _ _ _
    c.read_head-head.ensures
    c.in-Some.is u t
    c.in-Ok.is c.make_edit.ensures

pub returns-in-Err : goal.returns-in-Err
returns-in-Err c = let u = rw c.end_of-size.ensures at c.prepare-prepared.ensures in
    call-refused _ _ _ _ _ _ c.read_head-head.ensures
    c.in-Some.is u c.in-Err.is
    (rw c.end_of-size.ensures at c.refuse-in-Err.ensures)
