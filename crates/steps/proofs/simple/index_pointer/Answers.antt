-- `steps::simple::index_pointer` meets its contract.
use mathlib.Core.Path.{ap₂, ◌∙◌}
use Prim.Native.Nat.{◌*◌}
use borrow.Author.Rules.{rules}
use Rattle.steps.specs.AdvanceLaws.{assigns-index}
use Rattle.steps.proofs.simple.index_pointer.Goals as goal

pub scaled-requires : goal.scaled-requires
scaled-requires c = (rw c.size_in.ensures (c.requires.5 _), search rules)

pub returns : goal.returns
returns c = assigns-index _ _ _ _ _ _ _ _ _ _ _ c.requires.3
    c.from-base.ensures
    (c.scaled.ensures.value ∙ ap₂ ◌*◌ c.size_in.ensures
    c.from.ensures) c.assign_pointer.ensures
