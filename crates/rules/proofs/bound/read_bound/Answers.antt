-- `rules::bound::read_bound` meets its contract.
use mathlib.Core.Path.{ap₂, ◌∙◌}
use Prim.Native.Nat.{ℕ}
use Rattle.rules.specs.BoundsRules.{row_bound, sized}
use Rattle.rules.specs.BoundsTrue.{row-some}
use Rattle.rules.specs.Verdict.{environment_of}
use Rattle.rules.specs.declared.Bounds.{Bounds}
use Rattle.rules.proofs.bound.read_bound.Goals as goal

pub returns-then-n-eq0 : goal.returns-then-n-eq0
unfolding row_bound
returns-then-n-eq0 c = rw c.if-n-eq0.true c.read_own.ensures

pub returns : goal.returns
unfolding row_bound
returns c = ap₂ (λ (s : ℕ) (b : Bounds). sized s b) c.read_size-size.ensures c.row_at-row.ensures
    ∙ row-some (environment_of c.args.table.now c.args.sections) _ _ c.if-n-eq0.false
