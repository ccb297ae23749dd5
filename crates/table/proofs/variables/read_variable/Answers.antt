use native.Mathlib.Omega.{arith}
use Prim.Native.Nat.{◌<◌}
use Rattle.words.specs.Sections.{is_variable, Limits}
use Rattle.words.specs.SectionsLaws.{variable-limits}
use Rattle.table.specs.Variables.{variable_at}
use Rattle.table.proofs.variables.read_variable.Goals as goal
use Rattle.table.proofs.variables.read_variable.Goals.{Then-in_limits-v}

-- Past the test the sections are in their limits, and there is such a variable.
sized : (c : Then-in_limits-v)
    → Limits c.args.sections × (c.args.v < c.args.sections.variables)
unfolding is_variable
sized c = variable-limits _ _ (simp c.in_limits.ensures at c.if-in_limits-v.true)

pub overflow_add-sections : goal.overflow_add-sections
unfolding variable_at is_variable
overflow_add-sections c = let l = sized (goal.at.overflow_add-sections c).Then-in_limits-v in omega arith

pub overflow_mul-v : goal.overflow_mul-v
unfolding variable_at is_variable
overflow_mul-v c = let l = sized (goal.at.overflow_mul-v c).Then-in_limits-v in omega arith

pub overflow_add-sections-then-in_limits-v : goal.overflow_add-sections-then-in_limits-v
unfolding variable_at is_variable
overflow_add-sections-then-in_limits-v c = let l = sized (goal.at.overflow_add-sections-then-in_limits-v c).Then-in_limits-v in omega arith

pub variable_words_at-requires : goal.variable_words_at-requires
unfolding variable_at is_variable
variable_words_at-requires c = let l = sized (goal.at.variable_words_at-requires c).Then-in_limits-v in omega arith

pub returns-then-in_limits-v : goal.returns-then-in_limits-v
unfolding variable_at is_variable
returns-then-in_limits-v c = simp (
  c.variable_of.ensures,
  c.variable_words_at.ensures,
  simp c.in_limits.ensures at
      c.if-in_limits-v.true,
)

pub returns : goal.returns
unfolding variable_at is_variable
returns c = simp (simp c.in_limits.ensures at c.if-in_limits-v.false)
