-- `facts::FactSet::join_both` meets its contract: each turn fills one more row, and zero's is the last.
use Prim.Native.Nat.{◌-◌}
use mathlib.Core.Path.{refl, ap₂, sym, ◌∙◌}
use mathlib.Core.Bool.{false}
use borrow.Author.Rules.{rules}
use lib.ListN.{get_or}
use Rattle.sums.specs.Numbers.{zero_var}
use Rattle.arrays.specs.TabulateLaws.{filled_none, filled_more, filled-last, length-under}
use Rattle.facts.specs.Store.{row_at, set_of}
use Rattle.facts.specs.StoreLaws.{joined-both}
use Rattle.facts.specs.StoreLoops.{zero-joined, row-joined}
use Rattle.facts.proofs.FactSet.join_both.Goals as goal

pub loop-i-init : goal.loop-i-init
loop-i-init c = (filled_none _ _ _ (search (length-under, rules)), search rules, search rules)

pub loop-i-preserved : goal.loop-i-preserved
loop-i-preserved c = (
  filled_more c.loop-i.invariant.0 (search rules)
      (row-joined (λ m. get_or c.args.pointers m false) (row_at c.args.self zero_var) (row_at c.args.other zero_var)
      c.greatest_row-zero.ensures
      c.loop-i.i (row_at c.args.self c.loop-i.i) (row_at c.args.other c.loop-i.i) (search rules) c.greatest_row-row.ensures c.through_zero.ensures),
  c.loop-i.invariant.1,
  search rules,
)

pub returns : goal.returns
returns c = ap₂ set_of (filled-last 16 c.loop-i.invariant.0 (search rules) refl
    (zero-joined (λ m. get_or c.args.pointers m false) _ _ c.greatest_row-zero.ensures))
    (c.loop-i.invariant.1 ∙ c.requires.0)
    ∙ sym (joined-both _ _ _ c.requires.0 c.requires.1)
