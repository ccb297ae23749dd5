-- `declared::force::seen_in` meets its contract.
use mathlib.Core.Path.{ap₂}
use mathlib.Core.Bool.{Bool}
use mathlib.Core.List.{List}
use borrow.Author.Rules.{rules}
use Rattle.arrays.specs.FromFn.{made-tabulate}
use Rattle.rules.specs.Verdict.{environment_of}
use Rattle.rules.specs.declared.Bounds.{Bounds}
use Rattle.bounds.specs.declared.touched.Seen.{Seen}
use Rattle.declared.proofs.force.seen_in.Goals as goal

abbrev made : List Bool → List Bounds → Seen
made P D = record { pointers = P; declared = D }

pub returns : goal.returns
unfolding environment_of
returns c = ap₂ made c.read_pointers.ensures (made-tabulate _ _ _ (λ k y q e. search rules) _ _ c.from_fn.ensures.items)
