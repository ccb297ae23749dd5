use Prim.Native.Nat.{◌%◌, ◌<◌}
use mathlib.Core.Path.{◌≡◌}
use native.Mathlib.Omega.{arith}
use Rattle.words.specs.Sections.{statement_start, Limits}
use Rattle.words.specs.SectionsLaws.{statement-limits}
use Rattle.statements.specs.Statements.{statement_at}
use Rattle.statements.proofs.read_statement.Goals as goal
use Rattle.statements.proofs.read_statement.Goals.{Then-in_limits-at}

-- Past the test the sections are in their limits, and there is such a statement.
sized : (c : Then-in_limits-at)
    → Limits c.args.sections × (c.args.at < c.args.sections.statements)
sized c = statement-limits _ _ (simp c.in_limits.ensures at c.if-in_limits-at.true)

-- So its record starts below 65,536.

start : (c : Then-in_limits-at) → statement_start c.args.sections c.args.at % 65536 ≡ statement_start c.args.sections c.args.at
start c = let l = sized c in omega arith

pub overflow_add-start : goal.overflow_add-start
unfolding statement_at
overflow_add-start c = let l = sized (goal.at.overflow_add-start c).Then-in_limits-at in omega arith

pub overflow_mul-start : goal.overflow_mul-start
unfolding statement_at
overflow_mul-start c = let l = sized (goal.at.overflow_mul-start c).Then-in_limits-at in omega arith

pub overflow_add-start-then-in_limits-at : goal.overflow_add-start-then-in_limits-at
unfolding statement_at
overflow_add-start-then-in_limits-at c = let l = sized (goal.at.overflow_add-start-then-in_limits-at c).Then-in_limits-at in omega arith

pub overflow_mul-start-then-in_limits-at : goal.overflow_mul-start-then-in_limits-at
unfolding statement_at
overflow_mul-start-then-in_limits-at c = let l = sized (goal.at.overflow_mul-start-then-in_limits-at c).Then-in_limits-at in omega arith

pub overflow_add-start-then-in_limits-at-2 : goal.overflow_add-start-then-in_limits-at-2
unfolding statement_at
overflow_add-start-then-in_limits-at-2 c = let l = sized (goal.at.overflow_add-start-then-in_limits-at-2 c).Then-in_limits-at in omega arith

pub returns-then-in_limits-at : goal.returns-then-in_limits-at
unfolding statement_at
returns-then-in_limits-at c = simp (
  c.read_kind.ensures,
  c.fields_at.ensures,
  start (goal.at.returns-then-in_limits-at c).Then-in_limits-at,
  simp
      c.in_limits.ensures at c.if-in_limits-at.true,
)

pub returns : goal.returns
unfolding statement_at
returns c = simp (simp c.in_limits.ensures at c.if-in_limits-at.false)
