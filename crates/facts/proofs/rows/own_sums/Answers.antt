-- `facts::rows::own_sums` meets its contract: each turn fills one more sum.
use Prim.Native.Nat.{ℕ, ◌-◌}
use mathlib.Core.Path.{ap}
use mathlib.Core.List.{List}
use borrow.Author.Rules.{rules}
use native.Mathlib.Omega.{arith}
use Rattle.std.proofs.lemmas.Bool.Decides.{nat_tests}
use Rattle.arrays.specs.TabulateLaws.{filled_none, filled_more, filled-whole}
use Rattle.facts.specs.Store.{own_row}
use Rattle.facts.proofs.rows.own_sums.Goals.{then-j-x, else-j-x}
use Rattle.facts.proofs.rows.own_sums.Goals as goal

pub loop-j-init : goal.loop-j-init
unfolding own_row
loop-j-init c = filled_none _ _ _ (search rules)

pub loop-j-preserved : goal.loop-j-preserved
unfolding own_row
loop-j-preserved c = filled_more c.loop-j.invariant (search rules) (elim c.if-j-x.branch [
  | then-j-x w ↦ let e = w.if-j-x.true in grind (arith, w.next-is, nat_tests)
  | else-j-x w ↦ let e = w.if-j-x.false in grind (arith, w.next-is, w.concat.ensures, nat_tests)
])

pub returns : goal.returns
unfolding own_row
returns c = ap (λ (l : List ℕ). record { sums = l }) (filled-whole c.loop-j.invariant c.loop-j-test.false)
