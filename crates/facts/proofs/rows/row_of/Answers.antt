-- `facts::rows::row_of` meets its contract: each turn copies one more sum, and the last is copied by itself.
use Prim.Native.Nat.{◌-◌}
use mathlib.Core.Path.{ap, refl}
use borrow.Author.Rules.{rules}
use Rattle.arrays.specs.TabulateLaws.{filled_none, filled_more}
use Rattle.facts.specs.Store.{row_with}
use Rattle.facts.specs.Grid.{filled_copy}
use Rattle.facts.proofs.rows.row_of.Goals as goal

pub loop-j-init : goal.loop-j-init
loop-j-init c = (filled_none _ _ _ (search rules), search rules)

pub loop-j-preserved : goal.loop-j-preserved
loop-j-preserved c = (filled_more c.loop-j.invariant.0 (search rules) refl, search rules)

pub returns : goal.returns
returns c = ap row_with (filled_copy 0 16 c.loop-j.invariant.0 (search rules) refl (search rules))
