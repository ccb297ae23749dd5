-- `facts::FactSet::after` meets its contract: the first loop takes the rows apart, and the second moves one more row's sum a turn; each turn of the third adds
-- one more
-- fact, and each turn of the fourth, inside it, lowers one more row; the last puts the rows together.
use Prim.Native.Nat.{ℕ, ◌+◌, ◌-◌, ◌*◌, ◌<◌}
use mathlib.Core.Path.{◌≡◌, refl, ap, ap₂, ◌∙◌}
use mathlib.Core.List.{List}
use borrow.Author.Count.{falls}
use borrow.Author.Rules.{rules, scaled_Fits}
use mir.Syntax.{w64}
use mir.Val.{Fits}
use native.Mathlib.Omega.{arith}
use lib.ListN.{length}
use lib.Dec.{lit<}
use Rattle.facts.specs.declared.FactSet.{FactSet}
use Rattle.arrays.specs.TabulateLaws.{filled_none, filled_more, length-under}
use Rattle.facts.specs.Store.{anew}
use Rattle.facts.specs.StoreLaws.{changed-steps}
use Rattle.facts.specs.StoreLoops.{long-anew, anew-none, anew-nowhere, lowering-none, told_none, told_more, told-all, way-left, way-right, way-marked}
use Rattle.facts.specs.Grid.{set_with, loading-none, loading-more, loading-set, loading-long, rerouting-none, rerouting-more, rerouting-done}
use Rattle.facts.specs.Grid.{grid-falls, grid-stays, grid-known, grid-closed, grid-lowered, stored}
use Rattle.facts.proofs.FactSet.after.Goals as goal
use Rattle.facts.proofs.FactSet.after.Goals.{After-facts-1, else-start-sums, else-target-lt16, else-x-lt17, then-start-sums, then-target-lt16+else-base-lt17}
use Rattle.facts.proofs.FactSet.after.Goals.{then-target-lt16+then-base-lt17+else-loop-i-then-base-lt17-test, then-x-lt17+else-y-lt17}
use Rattle.facts.proofs.FactSet.after.Goals.{then-x-lt17+then-y-lt17+else-not-mark, then-x-lt17+then-y-lt17+then-not-mark+else-k-sums}
use Rattle.facts.proofs.FactSet.after.Goals.{then-x-lt17+then-y-lt17+then-not-mark+then-k-sums+else-concat-lt-BIAS+else-loop-i-else-concat-lt-BIAS-test}
use Rattle.facts.proofs.FactSet.after.Goals.{then-x-lt17+then-y-lt17+then-not-mark+then-k-sums+then-concat-lt-BIAS}

-- The set before the facts are added.
remade : (c : After-facts-1) → let was = c.args.self in let to = c.args.change in
    set_with c.if-target-lt16.sums was.contradiction ≡ anew was to.target to.base to.up to.down
remade c =
    let was = c.args.self in
    let to = c.args.change in
    let same : set_with c.loop-i.sums was.contradiction
    ≡ was = loading-set _ _ c.loop-i.sums c.loop-i.invariant c.loop-i-test.false (search (length-under, rules)) in
    (elim c.if-target-lt16.branch [
      | then-target-lt16+then-base-lt17+else-loop-i-then-base-lt17-test w ↦ rerouting-done _ _ _ _ _ _ w.loop-i-then-base-lt17.invariant to.up
          w.loop-i-then-base-lt17-test.false w.if-target-lt16.true w.if-base-lt17.true w.own_sums-own.ensures w.sums-is
      | then-target-lt16+else-base-lt17 w ↦ anew-nowhere _ _ _ _ _ w.if-target-lt16.true w.if-base-lt17.false
          (ap (λ (t : List (List ℕ)). set_with t was.contradiction) w.sums-is)
      | else-target-lt16 w ↦ anew-none _ _ _ _ _ w.if-target-lt16.false (ap (λ (t : List (List ℕ)). set_with t was.contradiction) w.sums-is)
    ])
    ∙ ap (λ (f : FactSet). anew f to.target to.base to.up to.down) same

-- An index of a row, of a sum and of a fact, times an element's size, and one more than an index.
row_fits : {i : ℕ} → i < 17 → Fits w64 (i * 136)
row_fits h = scaled_Fits _ _ _ h (lit< tt)

sum-fits : {i : ℕ} → i < 17 → Fits w64 (i * 8)
sum-fits h = scaled_Fits _ _ _ h (lit< tt)

fact-fits : {n : ℕ} → n < 3 → Fits w64 (n * 24)
fact-fits h = scaled_Fits _ _ _ h (lit< tt)

next_fits : {i n : ℕ} → i < n → n < 18 → Fits w64 (i + 1)
next_fits h d = record { fits = omega arith }

-- A variable has a row.
a-row : {x : ℕ} → x < 16 → x < 17
a-row h = omega arith

pub loop-i-init : goal.loop-i-init
loop-i-init c = loading-none _ _ (search rules)

pub offset_bounds-self-i : goal.offset_bounds-self-i
offset_bounds-self-i c = row_fits c.loop-i-test.true

pub bounds-self-i : goal.bounds-self-i
bounds-self-i c = c.loop-i-test.true

pub offset_bounds-sums-i : goal.offset_bounds-sums-i
offset_bounds-sums-i c = row_fits c.loop-i-test.true

pub bounds-sums-i : goal.bounds-sums-i
bounds-sums-i c = c.loop-i-test.true

pub overflow_step-i : goal.overflow_step-i
overflow_step-i c = next_fits c.loop-i-test.true (lit< tt)

pub loop-i-smaller : goal.loop-i-smaller
loop-i-smaller c = falls 17 _ c.loop-i-test.true

pub loop-i-preserved : goal.loop-i-preserved
loop-i-preserved c = loading-more _ _ _ c.loop-i.invariant c.loop-i-test.true c.sums_of.ensures.0 c.sums_of.ensures.1

pub offset_bounds-sums-base : goal.offset_bounds-sums-base
offset_bounds-sums-base c = row_fits c.if-base-lt17.true

pub bounds-sums-base : goal.bounds-sums-base
bounds-sums-base c = c.if-base-lt17.true

pub loop-i-then-base-lt17-init : goal.loop-i-then-base-lt17-init
loop-i-then-base-lt17-init c = rerouting-none _ _ _ _ _ (search (length-under, rules)) (loading-long _ _ _ c.loop-i.invariant c.loop-i-test.false)

pub offset_bounds-sums-i-in-loop-i-then-base-lt17 : goal.offset_bounds-sums-i-in-loop-i-then-base-lt17
offset_bounds-sums-i-in-loop-i-then-base-lt17 c = row_fits c.loop-i-then-base-lt17-test.true

pub offset_bounds-sums-base-in-loop-i-then-base-lt17 : goal.offset_bounds-sums-base-in-loop-i-then-base-lt17
offset_bounds-sums-base-in-loop-i-then-base-lt17 c = sum-fits c.if-base-lt17.true

pub bounds-sums-i-in-loop-i-then-base-lt17 : goal.bounds-sums-i-in-loop-i-then-base-lt17
bounds-sums-i-in-loop-i-then-base-lt17 c = c.loop-i-then-base-lt17-test.true

pub bounds-sums-base-in-loop-i-then-base-lt17 : goal.bounds-sums-base-in-loop-i-then-base-lt17
bounds-sums-base-in-loop-i-then-base-lt17 c = c.if-base-lt17.true

pub offset_bounds-sums-i-in-loop-i-then-base-lt17-2 : goal.offset_bounds-sums-i-in-loop-i-then-base-lt17-2
offset_bounds-sums-i-in-loop-i-then-base-lt17-2 c = row_fits c.loop-i-then-base-lt17-test.true

pub offset_bounds-sums-target : goal.offset_bounds-sums-target
offset_bounds-sums-target c = sum-fits (a-row c.if-target-lt16.true)

pub bounds-sums-i-in-loop-i-then-base-lt17-2 : goal.bounds-sums-i-in-loop-i-then-base-lt17-2
bounds-sums-i-in-loop-i-then-base-lt17-2 c = c.loop-i-then-base-lt17-test.true

pub bounds-sums-target : goal.bounds-sums-target
bounds-sums-target c = a-row c.if-target-lt16.true

pub overflow_step-i-in-loop-i-then-base-lt17 : goal.overflow_step-i-in-loop-i-then-base-lt17
overflow_step-i-in-loop-i-then-base-lt17 c = next_fits c.loop-i-then-base-lt17-test.true (lit< tt)

pub loop-i-then-base-lt17-smaller : goal.loop-i-then-base-lt17-smaller
loop-i-then-base-lt17-smaller c = falls 17 _ c.loop-i-then-base-lt17-test.true

pub loop-i-then-base-lt17-preserved : goal.loop-i-then-base-lt17-preserved
loop-i-then-base-lt17-preserved c = rerouting-more _ _ _ _ _ _ c.loop-i-then-base-lt17.invariant c.loop-i-then-base-lt17-test.true
    (a-row c.if-target-lt16.true) c.concat.ensures

pub offset_bounds-sums-target-then-base-lt17 : goal.offset_bounds-sums-target-then-base-lt17
offset_bounds-sums-target-then-base-lt17 c = row_fits (a-row c.if-target-lt16.true)

pub bounds-sums-target-then-base-lt17 : goal.bounds-sums-target-then-base-lt17
bounds-sums-target-then-base-lt17 c = a-row c.if-target-lt16.true

pub loop-n-init : goal.loop-n-init
loop-n-init c = told_none (ap (λ (f : FactSet). length f.rows) (remade c) ∙ long-anew _ _ _ _ _ (search (length-under, rules)))

pub offset_bounds-facts-n : goal.offset_bounds-facts-n
offset_bounds-facts-n c = fact-fits c.loop-n-test.true

pub bounds-facts-n : goal.bounds-facts-n
bounds-facts-n c = c.loop-n-test.true

pub offset_bounds-sums-x : goal.offset_bounds-sums-x
offset_bounds-sums-x c = row_fits c.if-x-lt17.true

pub offset_bounds-sums-y : goal.offset_bounds-sums-y
offset_bounds-sums-y c = sum-fits c.if-y-lt17.true

pub bounds-sums-x : goal.bounds-sums-x
bounds-sums-x c = c.if-x-lt17.true

pub bounds-sums-y : goal.bounds-sums-y
bounds-sums-y c = c.if-y-lt17.true

pub offset_bounds-sums-y-then-k-sums : goal.offset_bounds-sums-y-then-k-sums
offset_bounds-sums-y-then-k-sums c = row_fits c.if-y-lt17.true

pub offset_bounds-sums-x-then-k-sums : goal.offset_bounds-sums-x-then-k-sums
offset_bounds-sums-x-then-k-sums c = sum-fits c.if-x-lt17.true

pub bounds-sums-y-then-k-sums : goal.bounds-sums-y-then-k-sums
bounds-sums-y-then-k-sums c = c.if-y-lt17.true

pub bounds-sums-x-then-k-sums : goal.bounds-sums-x-then-k-sums
bounds-sums-x-then-k-sums c = c.if-x-lt17.true

pub offset_bounds-sums-y-else-concat-lt-BIAS : goal.offset_bounds-sums-y-else-concat-lt-BIAS
offset_bounds-sums-y-else-concat-lt-BIAS c = row_fits c.if-y-lt17.true

pub bounds-sums-y-else-concat-lt-BIAS : goal.bounds-sums-y-else-concat-lt-BIAS
bounds-sums-y-else-concat-lt-BIAS c = c.if-y-lt17.true

pub loop-i-else-concat-lt-BIAS-init : goal.loop-i-else-concat-lt-BIAS-init
loop-i-else-concat-lt-BIAS-init c = lowering-none c.loop-n.invariant.long

pub offset_bounds-sums-i-in-loop-i-else-concat-lt-BIAS : goal.offset_bounds-sums-i-in-loop-i-else-concat-lt-BIAS
offset_bounds-sums-i-in-loop-i-else-concat-lt-BIAS c = row_fits c.loop-i-else-concat-lt-BIAS-test.true

pub offset_bounds-sums-x-in-loop-i-else-concat-lt-BIAS : goal.offset_bounds-sums-x-in-loop-i-else-concat-lt-BIAS
offset_bounds-sums-x-in-loop-i-else-concat-lt-BIAS c = sum-fits c.if-x-lt17.true

pub bounds-sums-i-in-loop-i-else-concat-lt-BIAS : goal.bounds-sums-i-in-loop-i-else-concat-lt-BIAS
bounds-sums-i-in-loop-i-else-concat-lt-BIAS c = c.loop-i-else-concat-lt-BIAS-test.true

pub bounds-sums-x-in-loop-i-else-concat-lt-BIAS : goal.bounds-sums-x-in-loop-i-else-concat-lt-BIAS
bounds-sums-x-in-loop-i-else-concat-lt-BIAS c = c.if-x-lt17.true

pub offset_bounds-sums-i-in-loop-i-else-concat-lt-BIAS-2 : goal.offset_bounds-sums-i-in-loop-i-else-concat-lt-BIAS-2
offset_bounds-sums-i-in-loop-i-else-concat-lt-BIAS-2 c = row_fits c.loop-i-else-concat-lt-BIAS-test.true

pub offset_bounds-sums-y-in-loop-i-else-concat-lt-BIAS : goal.offset_bounds-sums-y-in-loop-i-else-concat-lt-BIAS
offset_bounds-sums-y-in-loop-i-else-concat-lt-BIAS c = sum-fits c.if-y-lt17.true

pub bounds-sums-i-in-loop-i-else-concat-lt-BIAS-2 : goal.bounds-sums-i-in-loop-i-else-concat-lt-BIAS-2
bounds-sums-i-in-loop-i-else-concat-lt-BIAS-2 c = c.loop-i-else-concat-lt-BIAS-test.true

pub bounds-sums-y-in-loop-i-else-concat-lt-BIAS : goal.bounds-sums-y-in-loop-i-else-concat-lt-BIAS
bounds-sums-y-in-loop-i-else-concat-lt-BIAS c = c.if-y-lt17.true

pub offset_bounds-sums-i-then-start-sums : goal.offset_bounds-sums-i-then-start-sums
offset_bounds-sums-i-then-start-sums c = row_fits c.loop-i-else-concat-lt-BIAS-test.true

pub bounds-sums-i-then-start-sums : goal.bounds-sums-i-then-start-sums
bounds-sums-i-then-start-sums c = c.loop-i-else-concat-lt-BIAS-test.true

pub lowered_sums-requires : goal.lowered_sums-requires
lowered_sums-requires c = c.all_plain-plain.ensures

pub offset_bounds-sums-i-then-start-sums-2 : goal.offset_bounds-sums-i-then-start-sums-2
offset_bounds-sums-i-then-start-sums-2 c = row_fits c.loop-i-else-concat-lt-BIAS-test.true

pub bounds-sums-i-then-start-sums-2 : goal.bounds-sums-i-then-start-sums-2
bounds-sums-i-then-start-sums-2 c = c.loop-i-else-concat-lt-BIAS-test.true

pub overflow_step-i-in-loop-i-else-concat-lt-BIAS : goal.overflow_step-i-in-loop-i-else-concat-lt-BIAS
overflow_step-i-in-loop-i-else-concat-lt-BIAS c = next_fits c.loop-i-else-concat-lt-BIAS-test.true (lit< tt)

pub loop-i-else-concat-lt-BIAS-smaller : goal.loop-i-else-concat-lt-BIAS-smaller
loop-i-else-concat-lt-BIAS-smaller c = falls 17 _ c.loop-i-else-concat-lt-BIAS-test.true

pub loop-i-else-concat-lt-BIAS-preserved : goal.loop-i-else-concat-lt-BIAS-preserved
loop-i-else-concat-lt-BIAS-preserved c = elim c.if-start-sums.branch [
  | then-start-sums w ↦ grid-falls _ _ _ _ _ c.loop-i-else-concat-lt-BIAS.sums _ c.loop-i-else-concat-lt-BIAS.invariant c.loop-i-else-concat-lt-BIAS-test.true
      c.concat-start.ensures w.if-start-sums.true w.lowered_sums.ensures w.sums-is
  | else-start-sums w ↦ grid-stays _ _ _ _ _ c.loop-i-else-concat-lt-BIAS.sums _ c.loop-i-else-concat-lt-BIAS.invariant c.loop-i-else-concat-lt-BIAS-test.true
      c.concat-start.ensures w.if-start-sums.false w.sums-is
]

pub overflow_step-n : goal.overflow_step-n
overflow_step-n c = next_fits c.loop-n-test.true (lit< tt)

pub loop-n-smaller : goal.loop-n-smaller
loop-n-smaller c = falls 3 _ c.loop-n-test.true

pub loop-n-preserved : goal.loop-n-preserved
loop-n-preserved c = told_more c.loop-n.invariant c.loop-n-test.true
    (elim c.if-x-lt17.branch [
      | then-x-lt17+then-y-lt17+then-not-mark+then-k-sums+then-concat-lt-BIAS w ↦ grid-closed c.loop-n.sums c.loop-n.mark _ _ _ w.if-x-lt17.true
          w.if-y-lt17.true w.if-not-mark.true-raw w.if-k-sums.true w.concat-then-k-sums.ensures w.if-concat-lt-BIAS.true
          (ap₂ set_with w.sums-is w.mark-is)
      | then-x-lt17+then-y-lt17+then-not-mark+then-k-sums+else-concat-lt-BIAS+else-loop-i-else-concat-lt-BIAS-test w ↦ grid-lowered c.loop-n.sums
          c.loop-n.mark _ _ _ w.if-x-lt17.true w.if-y-lt17.true w.if-not-mark.true-raw w.if-k-sums.true w.concat-then-k-sums.ensures w.if-concat-lt-BIAS.false
          w.loop-i-else-concat-lt-BIAS.invariant
          w.loop-i-else-concat-lt-BIAS-test.false (ap₂ set_with w.sums-is w.mark-is)
      | then-x-lt17+then-y-lt17+then-not-mark+else-k-sums w ↦ grid-known c.loop-n.sums c.loop-n.mark _ _ _ w.if-x-lt17.true w.if-y-lt17.true w.if-k-sums.false
          (ap₂ set_with w.sums-is w.mark-is)
      | then-x-lt17+then-y-lt17+else-not-mark w ↦ way-marked _ _ _ _ w.if-x-lt17.true w.if-y-lt17.true w.if-not-mark.false-raw
          (ap₂ set_with w.sums-is w.mark-is)
      | then-x-lt17+else-y-lt17 w ↦ way-right _ _ _ _ w.if-x-lt17.true w.if-y-lt17.false (ap₂ set_with w.sums-is w.mark-is)
      | else-x-lt17 w ↦ way-left _ _ _ _ w.if-x-lt17.false (ap₂ set_with w.sums-is w.mark-is)
    ])

pub loop-i-2-init : goal.loop-i-2-init
loop-i-2-init c = (filled_none _ _ _ (search rules), refl)

pub offset_bounds-sums-i-in-loop-i-2 : goal.offset_bounds-sums-i-in-loop-i-2
offset_bounds-sums-i-in-loop-i-2 c = row_fits c.loop-i-2-test.true

pub bounds-sums-i-in-loop-i-2 : goal.bounds-sums-i-in-loop-i-2
bounds-sums-i-in-loop-i-2 c = c.loop-i-2-test.true

pub offset_bounds-next-i : goal.offset_bounds-next-i
offset_bounds-next-i c = row_fits c.loop-i-2-test.true

pub bounds-next-i : goal.bounds-next-i
bounds-next-i c = c.loop-i-2-test.true

pub overflow_step-i-in-loop-i-2 : goal.overflow_step-i-in-loop-i-2
overflow_step-i-in-loop-i-2 c = next_fits c.loop-i-2-test.true (lit< tt)

pub loop-i-2-smaller : goal.loop-i-2-smaller
loop-i-2-smaller c = falls 17 _ c.loop-i-2-test.true

pub loop-i-2-preserved : goal.loop-i-2-preserved
loop-i-2-preserved c = (filled_more c.loop-i-2.invariant.0 c.loop-i-2-test.true c.row_of.ensures, c.loop-i-2.invariant.1)

pub returns : goal.returns
returns c =
    changed-steps _ _ (remade c.before.before.before.before)
    (stored c.loop-n.sums c.loop-i-2.invariant.0 c.loop-i-2-test.false c.loop-i-2.invariant.1 c.loop-n.invariant.long
    ∙ told-all c.loop-n.invariant c.loop-n-test.false)
