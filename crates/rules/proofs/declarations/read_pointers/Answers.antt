use borrow.Author.Rules.{rules}
use Rattle.arrays.specs.FromFn.{made-tabulate}
use Rattle.rules.proofs.declarations.read_pointers.Goals as goal

pub returns : goal.returns
returns c = made-tabulate _ _ _ (λ k y q e. search rules) _ _ c.from_fn.ensures.items
