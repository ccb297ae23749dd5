use native.Mathlib.Nat.{pos_of_ne-zero}
use Prim.Native.Nat.{ℕ, ◌-◌}
use mathlib.Core.Path.{sym, ap, ◌∙◌}
use native.Mathlib.Omega.{arith}
use Rattle.places.specs.StoreLaws.{count-within, place-within, next-first, next-behind}
use Rattle.places.proofs.is_next.Goals as goal

pub returns-then-count-eq0 : goal.returns-then-count-eq0
returns-then-count-eq0 c = next-first _ _ (sym c.place_count-count.ensures ∙ c.if-count-eq0.true)

pub position_at-requires : goal.position_at-requires
position_at-requires c = place-within c.args.store.now (c.place_count-count.result - 1)
    (omega (arith, count-within c.args.store.now, c.place_count-count.ensures, pos_of_ne-zero c.if-count-eq0.false))

pub returns : goal.returns
returns c = rw c.position_at.ensures (next-behind _ _ _ (ap (λ (n : ℕ). n - 1) c.place_count-count.ensures)
    (λ z. c.if-count-eq0.false (c.place_count-count.ensures ∙ z)))
