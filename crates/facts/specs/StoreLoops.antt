-- What the loops of the code keep, turn by turn, and what the rows are that they make.
use Rattle.std.specs.Prelude.{ℕ, ◌+◌, ◌≤◌, ◌<◌, max, ◌≡◌, Bool, not, get_or, set, ltb, leb, eqb}
use Rattle.std.proofs.Math.Path.{refl, sym, ap}
use Rattle.std.proofs.Common.{ap₂, ◌∙◌, length-set}
use mathlib.Core.List.{List}
use Rattle.std.proofs.Math.Bool.{true, false, cond}
use Rattle.std.specs.Bool.{beq}
use borrow.Author.Tests.{le-leb, lt-leb, ne_eqb}
use Rattle.std.proofs.Math.ListN.{length}
use Rattle.std.proofs.Math.Numerals.{add-one}
use native.Mathlib.Omega.{arith}
use Rattle.sums.specs.Numbers.{bias, zero_var}
use Rattle.arrays.specs.Choice.{cond_either}
use Rattle.arrays.specs.Tabulate.{tabulate}
use Rattle.arrays.specs.TabulateLaws.{length-tabulate, get_d_tabulate, tabulate-alike, Filled, filled_none}
use Rattle.arrays.specs.TabulateLaws.{filled_more, filled_next, filled-each, filled-kept, filled-whole}
use Rattle.sums.specs.Sums.{concatenated}
use Rattle.facts.specs.Store.{no_row, row_at, in_row, sum_at, set_of, least_sum, shown, lowered_row, lowered, marked, added}
use Rattle.facts.specs.Store.{own_row, rerouted, reassigned, anew, fact_at, added_fact, added_first, same, joined_sum, joined_row}
use Rattle.facts.specs.Rows.{shortened_row, greatest_row, through_zero}
use Rattle.facts.specs.StoreLaws.{least-node, shown-marked, shown-clear, added-left, added-right, added-shown}
use Rattle.facts.specs.StoreLaws.{added-closed, added-lowered, anew-left, anew-right, anew-variable}
use Rattle.facts.specs.declared.rows.Row.{Row}
use Rattle.changes.specs.declared.Fact.{Fact}
use Rattle.facts.specs.declared.FactSet.{FactSet}

-- ---- a variable anew

long-picked : (b : Bool) (f g : FactSet) → length f.rows ≡ 17 → length g.rows ≡ 17 → length (cond b f g).rows ≡ 17
long-picked b f g d e = cond_either (λ (s : FactSet). length s.rows ≡ 17) b f g d e

module _ (f : FactSet) (x y up down : ℕ) where
  pub long-anew : length f.rows ≡ 17 → length (anew f x y up down).rows ≡ 17
  unfolding anew reassigned
  long-anew e = long-picked (ltb 15 x) f _ e (long-picked (ltb zero_var y) f _ e (length-set (tabulate 17 (rerouted f x y down)) x _ ∙ length-tabulate 17 _))

  -- What the code makes of the variable, way by way (`g`).
  module _ {g : FactSet} where
    pub anew-none : 16 ≤ x → g ≡ f → g ≡ anew f x y up down
    anew-none h e = e ∙ sym (anew-left f x y up down (omega arith))

    pub anew-nowhere : x < 16 → 17 ≤ y → g ≡ f → g ≡ anew f x y up down
    anew-nowhere hx h e = e ∙ sym (anew-right f x y up down (omega arith) (omega arith))

    pub anew-filled : {rows : List Row} {own : Row} {mark : Bool} → x < 16 → y < 17 → own ≡ own_row (row_at f y) x up → rows ≡ tabulate 17 (rerouted f x y down)
        → mark ≡ f.contradiction → g ≡ set_of (set rows x own) mark → g ≡ anew f x y up down
    unfolding reassigned
    anew-filled hx hy o r m e = e ∙ rw (o, r, m) (sym (anew-variable f x y up down (omega arith) (omega arith)))

-- ---- three facts

not-true : (b : Bool) → not b ≡ true → b ≡ false
not-true true e = sym e
not-true false e = refl

not-false : (b : Bool) → not b ≡ false → b ≡ true
not-false true e = refl
not-false false e = sym e

module _ (f : FactSet) (x y k : ℕ) where
  known-shown : x ≤ 16 → y ≤ 16 → sum_at f x y ≤ k → shown f x y k ≡ true
  unfolding shown
  known-shown hx hy h = go f.contradiction
    where
      go : (b : Bool) → cond b true (leb (least_sum f x y) k) ≡ true
      go true = refl
      go false = le-leb (least_sum f x y) k (omega (arith, least-node f x y (omega arith) (omega arith)))

  clear-not-shown : x ≤ 16 → y ≤ 16 → f.contradiction ≡ false → k < sum_at f x y → shown f x y k ≡ false
  clear-not-shown hx hy e h = shown-clear f x y k e ∙ lt-leb (least_sum f x y) k (omega (arith, least-node f x y (omega arith) (omega arith)))

  -- What the code makes of a fact, way by way (`g`).
  module _ {g : FactSet} where
    pub way-left : 17 ≤ x → g ≡ f → g ≡ added f x y k
    way-left h e = e ∙ sym (added-left f x y k (omega arith))

    pub way-right : x < 17 → 17 ≤ y → g ≡ f → g ≡ added f x y k
    way-right hx h e = e ∙ sym (added-right f x y k (omega arith) (omega arith))

    pub way-marked : x < 17 → y < 17 → not f.contradiction ≡ false → g ≡ f → g ≡ added f x y k
    way-marked hx hy c e = e ∙ sym (added-shown f x y k (omega arith) (omega arith) (shown-marked f x y k (not-false _ c)))

    pub way-known : x < 17 → y < 17 → sum_at f x y ≤ k → g ≡ f → g ≡ added f x y k
    way-known hx hy h e = e ∙ sym (added-shown f x y k (omega arith) (omega arith) (known-shown (omega arith) (omega arith) h))

    pub way-closed : {s : ℕ} → x < 17 → y < 17 → not f.contradiction ≡ true → k < sum_at f x y → s ≡ concatenated (sum_at f y x) k → s < bias
        → g ≡ set_of f.rows true → g ≡ added f x y k
    unfolding marked
    way-closed hx hy c h d l e = e
        ∙ sym (added-closed f x y k (omega arith) (omega arith) (clear-not-shown (omega arith) (omega arith) (not-true _ c) h) (omega arith))

    pub way-lowered : {s : ℕ} → x < 17 → y < 17 → not f.contradiction ≡ true → k < sum_at f x y → s ≡ concatenated (sum_at f y x) k → bias ≤ s
        → g ≡ lowered f x y k → g ≡ added f x y k
    way-lowered hx hy c h d l e = e
        ∙ sym (added-lowered f x y k (omega arith) (omega arith) (clear-not-shown (omega arith) (omega arith) (not-true _ c) h) (omega arith))

  long-added : length f.rows ≡ 17 → length (added f x y k).rows ≡ 17
  unfolding added marked lowered
  long-added e =
      long-picked (ltb zero_var x) f _ e
      (long-picked (ltb zero_var y) f _ e
      (long-picked (shown f x y k) f _ e
      (long-picked (ltb (concatenated (sum_at f y x) k) bias) (marked f) (lowered f x y k) e (length-tabulate 17 _))))

-- The loop over the rows, after i of them: x <= y + k is added to f₀, and `through` is y's row.
pub record Lowering (x y k : ℕ) (through : Row) (f₀ f : FactSet) (i : ℕ) : Type 0 where
  pub filled : Filled f.rows f₀.rows 17 (λ n. lowered_row (row_at f₀ n) (concatenated (sum_at f₀ n x) k) y through) i
  pub mark : f.contradiction ≡ f₀.contradiction

-- A row after its turn: some sum falls only where the one to y does.
abbrev turned : ℕ → ℕ → ℕ → Row → Row → Row
turned x y k through row = lowered_row row (concatenated (in_row row x) k) y through

turned-falls : (x y k : ℕ) (through row : Row) → concatenated (in_row row x) k < in_row row y
    → turned x y k through row ≡ shortened_row row (concatenated (in_row row x) k) through
unfolding lowered_row shortened_row
turned-falls x y k through row h = rw (lt-leb (in_row row y) (concatenated (in_row row x) k) h)

turned-stays : (x y k : ℕ) (through row : Row) → in_row row y ≤ concatenated (in_row row x) k → turned x y k through row ≡ row
unfolding lowered_row
turned-stays x y k through row h = rw (le-leb (in_row row y) (concatenated (in_row row x) k) h)

module _ {x y k : ℕ} {through : Row} where
  pub lowering-none : {f : FactSet} → length f.rows ≡ 17 → Lowering x y k through f f 0
  lowering-none e = record { filled = filled_none _ _ _ e; mark = refl }

  module _ {f₀ f g : FactSet} {i start : ℕ} (p : Lowering x y k through f₀ f i) (h : i < 17) (s : start ≡ concatenated (sum_at f i x) k) where
    pub lowering-falls : {row : Row} → start < sum_at f i y → row ≡ shortened_row (row_at f i) start through → g ≡ set_of (set f.rows i row) f.contradiction
        → Lowering x y k through f₀ g (i + 1)
    lowering-falls l e d =
        rw d
        (record {
          filled = filled-each (turned x y k through) no_row p.filled h
              (e ∙ ap (λ (a : ℕ). shortened_row (row_at f i) a through) s ∙ sym (turned-falls x y k through (row_at f i) (omega arith)));
          mark = p.mark;
        })

    pub lowering-stays : sum_at f i y ≤ start → g ≡ f → Lowering x y k through f₀ g (i + 1)
    lowering-stays l d =
        rw d (record {
          filled = filled-kept no_row p.filled h
              (sym (turned-stays x y k through (row_at f i) (omega arith)) ∙ ap (turned x y k through) (filled_next no_row p.filled));
          mark = p.mark;
        })

pub lowering-done : {x y k : ℕ} {f₀ f : FactSet} {i : ℕ} → Lowering x y k (row_at f₀ y) f₀ f i → 17 ≤ i → f ≡ lowered f₀ x y k
unfolding lowered
lowering-done p h = ap₂ set_of (filled-whole p.filled h) p.mark

-- The loop over the facts, after n of them.
pub record Told (facts : List Fact) (f₀ f : FactSet) (n : ℕ) : Type 0 where
  pub told : f ≡ added_first n facts f₀
  pub long : length f.rows ≡ 17
  pub within : n ≤ 3

module _ {facts : List Fact} where
  pub told_none : {f : FactSet} → length f.rows ≡ 17 → Told facts f f 0
  unfolding added_first
  told_none e = record { told = refl; long = e; within = omega arith }

  pub told_more : {f₀ f g : FactSet} {n : ℕ} → Told facts f₀ f n → n < 3 → g ≡ added_fact f (fact_at facts n) → Told facts f₀ g (n + 1)
  unfolding added_first
  told_more {f₀} {f} {g} {n} p h e =
      record {
        told = rw add-one (e ∙ ap (λ (b : FactSet). added_fact b (fact_at facts n)) p.told);
        long = ap (λ (b : FactSet). length b.rows) e ∙ long-added f _ _ _ p.long;
        within = omega arith;
      }

  pub told-all : {f₀ f : FactSet} {n : ℕ} → Told facts f₀ f n → 3 ≤ n → f ≡ added_first 3 facts f₀
  told-all {f₀} {f} {n} p h =
      let e : n ≡ 3 = omega (arith, p.within) in
      p.told ∙ ap (λ (m : ℕ). added_first m facts f₀) e

-- ---- join

-- The loop through a row, after j sums: `to` is the row's sum to zero.
abbrev routed : List Bool → Bool → Row → ℕ → Row → ℕ → ℕ
routed pointers pointer row to zeros n = cond (cond (eqb n zero_var) true (same pointer (get_or pointers n false))) (in_row row n)
    (concatenated to (in_row zeros n))

pub record Routing (pointers : List Bool) (pointer : Bool) (row : Row) (to : ℕ) (zeros next : Row) (j : ℕ) : Type 0 where
  pub filled : Filled next.sums row.sums 17 (routed pointers pointer row to zeros) j
  pub within : j ≤ 16

mixed : (a b : Bool) → not (beq a b) ≡ true → same b a ≡ false
mixed true true e = sym e
mixed true false e = refl
mixed false true e = refl
mixed false false e = sym e

alike : (a b : Bool) → not (beq a b) ≡ false → same b a ≡ true
alike true true e = refl
alike true false e = sym e
alike false true e = sym e
alike false false e = refl

routed-variable : (pointers : List Bool) (pointer : Bool) (row : Row) (to : ℕ) (zeros : Row) (j : ℕ) {b : Bool} → j < 16
    → same pointer (get_or pointers j false) ≡ b
    → routed pointers pointer row to zeros j ≡ cond b (in_row row j) (concatenated to (in_row zeros j))
routed-variable pointers pointer row to zeros j h e = rw (ne_eqb j zero_var (λ q. omega (arith, q)), e)

module _ {pointers : List Bool} {pointer : Bool} {row zeros : Row} {to : ℕ} where
  pub routing-none : length row.sums ≡ 17 → Routing pointers pointer row to zeros row 0
  routing-none e = record { filled = filled_none _ _ _ e; within = omega arith }

  module _ {next after : Row} {j : ℕ} (p : Routing pointers pointer row to zeros next j) (h : j < 16) where
    pub routing-mixed : {s : ℕ} → not (beq (get_or pointers j false) pointer) ≡ true → s ≡ concatenated to (in_row zeros j)
        → after ≡ record { sums = set next.sums j s }
        → Routing pointers pointer row to zeros after (j + 1)
    routing-mixed t e d =
        rw d (record {
          filled = filled_more p.filled (omega arith)
              (e ∙ sym (routed-variable pointers pointer row to zeros j h (mixed (get_or pointers j false) pointer t)));
          within = omega arith;
        })

    pub routing-alike : not (beq (get_or pointers j false) pointer) ≡ false → after ≡ next → Routing pointers pointer row to zeros after (j + 1)
    routing-alike t d =
        rw d
        (record {
          filled = filled-kept 0 p.filled (omega arith)
              (filled_next 0 p.filled ∙ sym (routed-variable pointers pointer row to zeros j h (alike (get_or pointers j false) pointer t)));
          within = omega arith;
        })

pub routing-done : {pointers : List Bool} {pointer : Bool} {row zeros next : Row} {j : ℕ} → Routing pointers pointer row (in_row row zero_var) zeros next j
    → 16 ≤ j
    → next ≡ through_zero (λ n. get_or pointers n false) pointer row zeros
unfolding through_zero
routing-done {pointers} {pointer} {row} {zeros} {next} {j} p h =
    let e : j ≡ 16 = omega (arith, p.within) in
    let q : Filled next.sums row.sums 17 (routed pointers pointer row (in_row row zero_var) zeros) 16 = rw e at p.filled in
    ap (λ (l : List ℕ). record { sums = l }) (filled-whole (filled-kept 0 q (omega arith) (filled_next 0 q)) (omega arith))

in-greatest : {r : Row} (a b : Row) (j : ℕ) → r ≡ greatest_row a b → j < 17 → in_row r j ≡ max (in_row a j) (in_row b j)
unfolding greatest_row
in-greatest a b j e h = rw e (get_d_tabulate 17 _ j 0 h)

-- The rows of a join: zero's, and a variable's, which goes through it.
module _ (pointer : ℕ → Bool) {zeros : Row} (zeroA zeroB : Row) (z : zeros ≡ greatest_row zeroA zeroB) where
  pub zero-joined : zeros ≡ joined_row pointer zero_var zeroA zeroB zeroA zeroB
  unfolding joined_row joined_sum greatest_row
  zero-joined = z

  pub row-joined : {r t : Row} (i : ℕ) (a b : Row) → i < 16 → r ≡ greatest_row a b → t ≡ through_zero pointer (pointer i) r zeros
      → t ≡ joined_row pointer i a b zeroA zeroB
  unfolding joined_row joined_sum through_zero
  row-joined {r} i a b h e d =
      d ∙ ap (λ (l : List ℕ). record { sums = l })
      (tabulate-alike 17 (λ j hj.
      rw (ne_eqb i zero_var (λ q. omega (arith, q)), in-greatest a b j e hj, in-greatest a b zero_var e (omega arith), in-greatest zeroA zeroB j z hj)))
