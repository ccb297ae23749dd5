-- `bounds::touched::named_in` meets its contract.
use borrow.Author.Rules.{rules}
use Rattle.arrays.specs.FromFn.{made-tabulate}
use Rattle.bounds.specs.Touched.{named_in}
use Rattle.bounds.proofs.touched.named_in.Goals as goal

pub returns : goal.returns
unfolding named_in
returns c = made-tabulate _ _ _ (λ k y q e. search rules) _ _ c.from_fn.ensures.items
