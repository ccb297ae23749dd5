use native.Mathlib.Omega.{arith}
use Prim.Native.Nat.{◌<◌}
use Rattle.words.specs.Sections.{Limits}
use Rattle.words.specs.SectionsLaws.{row-limits}
use Rattle.table.specs.Variables.{row_at}
use Rattle.table.proofs.variables.read_row.Goals as goal
use Rattle.table.proofs.variables.read_row.Goals.{Then-in_limits-r}

-- Past the test the sections are in their limits, and there is such a row.
sized : (c : Then-in_limits-r)
    → Limits c.args.sections × (c.args.r < c.args.sections.rows)
sized c = row-limits _ _ (simp c.in_limits.ensures at c.if-in_limits-r.true)

pub overflow_add-start : goal.overflow_add-start
unfolding row_at
overflow_add-start c = let l = sized (goal.at.overflow_add-start c).Then-in_limits-r in omega arith

pub overflow_mul-start : goal.overflow_mul-start
unfolding row_at
overflow_mul-start c = let l = sized (goal.at.overflow_mul-start c).Then-in_limits-r in omega arith

pub overflow_add-start-then-in_limits-r : goal.overflow_add-start-then-in_limits-r
unfolding row_at
overflow_add-start-then-in_limits-r c = let l = sized (goal.at.overflow_add-start-then-in_limits-r c).Then-in_limits-r in omega arith

pub overflow_mul-start-then-in_limits-r : goal.overflow_mul-start-then-in_limits-r
unfolding row_at
overflow_mul-start-then-in_limits-r c = let l = sized (goal.at.overflow_mul-start-then-in_limits-r c).Then-in_limits-r in omega arith

pub overflow_add-start-then-in_limits-r-2 : goal.overflow_add-start-then-in_limits-r-2
unfolding row_at
overflow_add-start-then-in_limits-r-2 c = let l = sized (goal.at.overflow_add-start-then-in_limits-r-2 c).Then-in_limits-r in omega arith

pub overflow_mul-start-then-in_limits-r-2 : goal.overflow_mul-start-then-in_limits-r-2
unfolding row_at
overflow_mul-start-then-in_limits-r-2 c = let l = sized (goal.at.overflow_mul-start-then-in_limits-r-2 c).Then-in_limits-r in omega arith

pub overflow_add-start-then-in_limits-r-3 : goal.overflow_add-start-then-in_limits-r-3
unfolding row_at
overflow_add-start-then-in_limits-r-3 c = let l = sized (goal.at.overflow_add-start-then-in_limits-r-3 c).Then-in_limits-r in omega arith

pub row_words_at-requires : goal.row_words_at-requires
unfolding row_at
row_words_at-requires c = let l = sized (goal.at.row_words_at-requires c).Then-in_limits-r in omega arith

pub returns-then-in_limits-r : goal.returns-then-in_limits-r
unfolding row_at
returns-then-in_limits-r c = simp (
  c.row_of.ensures,
  c.row_words_at.ensures,
  simp c.in_limits.ensures at
      c.if-in_limits-r.true,
)

pub returns : goal.returns
unfolding row_at
returns c = simp (simp c.in_limits.ensures at c.if-in_limits-r.false)
