use Prim.Native.Nat.{◌-◌}
use mathlib.Core.Path.{◌∙◌}
use native.Mathlib.Nat.{pos_of_ne-zero}
use native.Mathlib.Omega.{arith}
use Rattle.places.specs.StoreLaws.{count-within, place-within}
use Rattle.editor.specs.EditLaws.{before-none, before-some}
use Rattle.editor.proofs.place_before.Goals as goal

pub returns-then-held-eq0 : goal.returns-then-held-eq0
returns-then-held-eq0 c = before-none _ c.if-held-eq0.true

pub position_at-requires : goal.position_at-requires
position_at-requires c = place-within c.args.store.now (c.args.held - 1)
    (omega (arith, c.requires, count-within c.args.store.now, pos_of_ne-zero c.if-held-eq0.false))

pub returns : goal.returns
returns c = c.position_at.ensures ∙ before-some _ c.if-held-eq0.false c.requires
