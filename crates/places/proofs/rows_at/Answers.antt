use borrow.Author.Rules.{rules}
use Rattle.arrays.specs.FromFn.{made-tabulate}
use Rattle.places.specs.Places.{rows_at}
use Rattle.places.proofs.rows_at.Goals as goal

pub returns : goal.returns
unfolding rows_at
returns c = made-tabulate _ _ _ (λ k y q e. search rules) _ _ c.from_fn.ensures.items
