use Prim.Native.Nat.{ℕ, ◌-◌}
use mathlib.Core.Path.{refl, ap, ◌∙◌}
use Rattle.rewalks.specs.RewalkLaws.{past_end, not-laid, laid_from, rewalked, from_last}
use Rattle.rewalks.proofs.rewalk.Goals as goal

pub returns-then-from-end : goal.returns-then-from-end
returns-then-from-end c = from_last c.last_place-start.ensures (past_end _ _ _ _ _ _ c.if-from-end.true refl refl)

pub walk_on-verdict-requires : goal.walk_on-verdict-requires
walk_on-verdict-requires c = (
  c.requires.0,
  c.requires.1,
  laid_from _ _ _ c.if-from-end.false c.lay_block-layout.ensures
      c.in-Ok.is,
)

pub begun_to-to-requires : goal.begun_to-to-requires
begun_to-to-requires c = c.requires.1

pub returns-in-Err : goal.returns-in-Err
returns-in-Err c = from_last c.last_place-start.ensures
    (not-laid _ _ _ _ _ _ c.if-from-end.false c.lay_block-layout.ensures
    c.in-Err.is refl refl)

pub returns-in-Ok : goal.returns-in-Ok
returns-in-Ok c = from_last c.last_place-start.ensures
    (rewalked _ _ _ _ _ _ c.if-from-end.false
    c.lay_block-layout.ensures
    c.in-Ok.is c.walk_on-verdict.ensures
    (c.saturating_sub.ensures ∙ ap
    (λ (n : ℕ). n - c.last_place-start.result.position)
    c.begun_to-to.ensures))
