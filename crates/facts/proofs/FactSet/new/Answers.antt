-- `facts::FactSet::new` meets its contract: each turn fills one more row.
use Prim.Native.Nat.{◌-◌}
use mathlib.Core.Path.{ap₂}
use borrow.Author.Rules.{rules}
use Rattle.arrays.specs.TabulateLaws.{filled_none, filled_more, filled-whole}
use Rattle.facts.specs.Store.{new_row, new_set, set_of}
use Rattle.facts.proofs.FactSet.new.Goals as goal

pub loop-i-init : goal.loop-i-init
unfolding new_set
loop-i-init c = (filled_none _ _ _ (search rules), search rules)

pub loop-i-preserved : goal.loop-i-preserved
unfolding new_set
loop-i-preserved c = (filled_more c.loop-i.invariant.0 (search rules) c.new_row.ensures, c.loop-i.invariant.1)

pub returns : goal.returns
unfolding new_set
returns c = ap₂ set_of (filled-whole c.loop-i.invariant.0 c.loop-i-test.false) c.loop-i.invariant.1
