-- The tables of a lent set, and the callees of one of its routines.
use Rattle.std.specs.Prelude.{ℕ, ◌≤◌, ◌<◌, min, ◌≡◌, ℤ, length, get_or, take}
use Rattle.std.proofs.Math.Path.{sym, ap}
use Rattle.std.proofs.Common.{◌∙◌, arith, length-take}
use mathlib.Core.List.{List, []}
use Rattle.arrays.specs.TabulateLaws.{get_d_tabulate, length-tabulate}
use Rattle.parts.specs.Parts.{part_of}
use Rattle.parts.specs.PartsLaws.{first_part}
use Rattle.rules.specs.Calls.{no_routine, routine_at}
use Rattle.rules.specs.Sets.{routine_of}
use Rattle.declared.specs.Callee.{callee_in, callees_in}
use Rattle.sets.specs.Tables.{tables_in}

pub lengths-taken : (L : List ℕ) (n : ℕ) → n ≤ length L → length (take n L) ≡ n
lengths-taken L n l = let e : min n (length L) ≡ n = omega arith in length-take n L ∙ e

module _ (W : List ℤ) (L : List ℕ) where
  pub length-tables : length (tables_in W L) ≡ length L
  unfolding tables_in
  length-tables = length-tabulate (length L) (λ n. part_of L 1 0 n W)

  pub table_at : (n : ℕ) → n < length L → get_or (tables_in W L) n [] ≡ part_of L 1 0 n W
  unfolding tables_in
  table_at n l = get_d_tabulate (length L) (λ m. part_of L 1 0 m W) n [] l

  -- The first n tables are the callees of routine n.
  module _ (n : ℕ) (within : n ≤ length L) (few : n ≤ 8) where
    pub callees-count : length (callees_in W (take n L)) ≡ n
    unfolding callees_in
    callees-count = length-tabulate (min (length (take n L)) 8) (callee_in W (take n L)) ∙ omega (arith, lengths-taken L n within)

    pub callee-lent : (k : ℕ) → k < n → routine_at (callees_in W (take n L)) k ≡ routine_of (get_or (tables_in W L) k [])
    unfolding callees_in
    callee-lent k l =
        get_d_tabulate (min (length (take n L)) 8) (callee_in W (take n L)) k no_routine (omega (arith, lengths-taken L n within))
        ∙ ap routine_of (first_part L n k W l ∙ sym (table_at k (omega arith)))
