use Prim.Native.Nat.{◌+◌, ◌*◌}
use native.Mathlib.Omega.{arith}
use lib.ListN.{length-set}
use Rattle.places.specs.StoreLaws.{place-within, pushed_at}
use Rattle.places.proofs.push.Goals as goal

pub overflow_mul-start : goal.overflow_mul-start
overflow_mul-start c = omega (arith, place-within c.args.store.now _ c.requires, c.place_count-count.ensures)

pub overflow_add-start : goal.overflow_add-start
overflow_add-start c = omega (arith, place-within c.args.store.now _ c.requires, c.place_count-count.ensures)

pub offset_bounds-store-start : goal.offset_bounds-store-start
offset_bounds-store-start c = omega (arith, place-within c.args.store.now _ c.requires, c.place_count-count.ensures)

pub bounds-store-start : goal.bounds-store-start
bounds-store-start c = omega (arith, place-within c.args.store.now _ c.requires, c.place_count-count.ensures)

pub overflow_add-start-2 : goal.overflow_add-start-2
overflow_add-start-2 c = omega (
  arith,
  place-within c.args.store.now _
      c.requires,
  c.place_count-count.ensures,
)

pub save-requires : goal.save-requires
save-requires c = simp length-set
    (omega (
      arith,
      place-within c.args.store.now _
          c.requires,
      c.place_count-count.ensures,
    ))

pub overflow_add-start-3 : goal.overflow_add-start-3
overflow_add-start-3 c = omega (
  arith,
  place-within c.args.store.now _
      c.requires,
  c.place_count-count.ensures,
)

pub save_rows-requires : goal.save_rows-requires
save_rows-requires c = omega (
  arith,
  place-within c.args.store.now _
      c.requires,
  c.place_count-count.ensures,
  c.save.ensures.words.long,
  length-set c.args.store.now
      (1 + 307 * c.place_count-count.result)
      c.args.at,
)

pub overflow_add-store : goal.overflow_add-store
overflow_add-store c = omega (
  arith,
  place-within c.args.store.now _
      c.requires,
  c.place_count-count.ensures,
)

pub bounds-store-0 : goal.bounds-store-0
bounds-store-0 c = omega (
  arith,
  place-within c.args.store.now _
      c.requires,
  c.place_count-count.ensures,
  c.save.ensures.words.long,
  c.save_rows.ensures.words.long,
  length-set c.args.store.now
      (1 + 307 * c.place_count-count.result)
      c.args.at,
)

pub shape_of-store : goal.shape_of-store
shape_of-store c = (pushed_at _ _ _ _ c.place_count-count.ensures
    c.requires
    c.save.ensures c.save_rows.ensures).long

pub returns : goal.returns
returns c = pushed_at _ _ _ _ c.place_count-count.ensures
    c.requires
    c.save.ensures c.save_rows.ensures
