use mathlib.Core.Path.{ap}
use borrow.Author.Rules.{rules}
use Rattle.arrays.specs.FromFn.{made-tabulate}
use Rattle.facts.specs.Store.{new_row, row_with}
use Rattle.facts.proofs.rows.new_row.Goals as goal

pub returns : goal.returns
unfolding new_row
returns c = ap row_with (made-tabulate _ _ _ (λ k y q e. search rules) _ _ c.from_fn.ensures.items)
