use Prim.Native.Nat.{◌-◌}
use mathlib.Core.Path.{refl, sym, ◌∙◌}
use native.Mathlib.Omega.{arith}
use native.Mathlib.Nat.{pos_of_ne-zero}
use Rattle.arrays.specs.Tabulate.{tabulate}
use Rattle.places.specs.StoreLaws.{count-within, place-within}
use Rattle.rewalks.specs.RewalkLaws.{begins-first, begins-last}
use Rattle.rewalks.proofs.last_place.Goals as goal

pub returns-then-count-eq0 : goal.returns-then-count-eq0
unfolding tabulate
returns-then-count-eq0 c = begins-first _ (sym c.place_count-count.ensures ∙ c.if-count-eq0.true) refl c.new.ensures refl

pub position_at-requires : goal.position_at-requires
position_at-requires c = place-within c.args.store.now (c.place_count-count.result - 1)
    (omega (arith, count-within c.args.store.now, c.place_count-count.ensures, pos_of_ne-zero c.if-count-eq0.false))

pub facts_at-requires : goal.facts_at-requires
facts_at-requires c = place-within c.args.store.now (c.place_count-count.result - 1)
    (omega (
      arith,
      count-within c.args.store.now,
      c.place_count-count.ensures,
      pos_of_ne-zero
          c.if-count-eq0.false,
    ))

pub rows_at-requires : goal.rows_at-requires
rows_at-requires c = place-within c.args.store.now (c.place_count-count.result - 1)
    (omega (
      arith,
      count-within c.args.store.now,
      c.place_count-count.ensures,
      pos_of_ne-zero c.if-count-eq0.false,
    ))

pub returns : goal.returns
returns c = begins-last _ c.place_count-count.ensures c.if-count-eq0.false
    c.position_at.ensures c.facts_at.ensures c.rows_at.ensures
