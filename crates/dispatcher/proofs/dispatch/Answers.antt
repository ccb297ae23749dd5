-- `dispatcher::dispatch` meets its contract: the room, the count, then the routines.
use mathlib.Core.Path.{◌≡◌, sym, ◌∙◌}
use mathlib.Core.Bool.{true}
use lib.Seq.{length-take-le}
use Rattle.dispatcher.specs.Dispatch.{room_right}
use Rattle.dispatcher.specs.DispatchLaws.{was-false, was-true, room-is, room_cut, count-test, answers-no-room, answers-count}
use Rattle.dispatcher.proofs.dispatch.Goals as goal

pub returns-then-not-room_right : goal.returns-then-not-room_right
returns-then-not-room_right c = answers-no-room _ _ _ _ _ _ _ (sym (room-is _ _ _ c.room_right.ensures) ∙ was-false _ c.if-not-room_right.true-raw)
    c.only.ensures

pub returns-then-not-count_right : goal.returns-then-not-count_right
returns-then-not-count_right c = answers-count _ _ _ _ _ _ _
    (sym (room-is _ _ _ c.room_right.ensures) ∙ was-true _ c.if-not-room_right.false-raw)
    (sym (count-test _ _ _ c.count_right.ensures) ∙ was-false _ c.if-not-count_right.true-raw) c.only-then-not-count_right.ensures

pub slice_bounds-dispatch_counted-end : goal.slice_bounds-dispatch_counted-end
slice_bounds-dispatch_counted-end c = (room_cut c.args.ends.now
    c.args.successors.now _
    c.room_right.ensures c.if-not-room_right.false-raw).0

pub slice_bounds-dispatch_counted-end-2 : goal.slice_bounds-dispatch_counted-end-2
slice_bounds-dispatch_counted-end-2 c = sym (length-take-le 4096
    c.args.ends.now (room_cut
    c.args.ends.now
    c.args.successors.now _
    c.room_right.ensures c.if-not-room_right.false-raw).0)

pub slice_bounds-dispatch_counted-end-3 : goal.slice_bounds-dispatch_counted-end-3
slice_bounds-dispatch_counted-end-3 c = (room_cut c.args.ends.now
    c.args.successors.now _
    c.room_right.ensures c.if-not-room_right.false-raw).1

pub slice_bounds-dispatch_counted-end-4 : goal.slice_bounds-dispatch_counted-end-4
slice_bounds-dispatch_counted-end-4 c = sym (length-take-le 16384
    c.args.successors.now
    (room_cut
    c.args.ends.now
    c.args.successors.now _
    c.room_right.ensures
    c.if-not-room_right.false-raw).1)

pub dispatch_counted-requires : goal.dispatch_counted-requires
dispatch_counted-requires c = (
  sym (count-test _ _ _ c.count_right.ensures) ∙ was-true _ c.if-not-count_right.false-raw,
  length-take-le 4096 c.args.ends.now (room_cut
      c.args.ends.now
      c.args.successors.now _
      c.room_right.ensures
      c.if-not-room_right.false-raw).0,
  length-take-le 16384 c.args.successors.now (room_cut
      c.args.ends.now
      c.args.successors.now _
      c.room_right.ensures
      c.if-not-room_right.false-raw).1,
)

pub returns : goal.returns
returns c = let e : room_right
    c.args.ends.now
    c.args.successors.now ≡ true = sym (room-is _ _ _
    c.room_right.ensures)
    ∙ was-true _
    c.if-not-room_right.false-raw in
    rw e c.dispatch_counted.ensures
