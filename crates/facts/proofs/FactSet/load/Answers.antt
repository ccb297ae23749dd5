use mathlib.Core.Path.{ap₂, refl}
use borrow.Author.Rules.{rules}
use Rattle.arrays.specs.FromFn.{made-tabulate}
use Rattle.facts.specs.Store.{set_of}
use Rattle.facts.specs.Words.{loaded}
use Rattle.facts.proofs.FactSet.load.Goals as goal

pub returns : goal.returns
unfolding loaded
returns c = ap₂ set_of (made-tabulate _ _ _ (λ k y q e. search rules) _ _ c.from_fn.ensures.items) refl
