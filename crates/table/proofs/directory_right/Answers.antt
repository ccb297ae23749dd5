use mathlib.Core.Path.{◌∙◌, sym}
use native.Mathlib.Omega.{arith}
use borrow.Author.Tests.{not-false}
use Rattle.words.specs.SectionsLaws.{limits}
use Rattle.words.specs.Sections.{Limits}
use Rattle.table.specs.Form.{directory_right}
use Rattle.table.proofs.directory_right.Goals as goal
use Rattle.table.proofs.directory_right.Goals.{Else-not-in_limits}

-- Past the test the sections are in their limits.
sized : (c : Else-not-in_limits) → Limits c.args.sections
sized c = limits _ (sym c.in_limits.ensures ∙ c.if-not-in_limits.false)

pub returns-then-not-in_limits : goal.returns-then-not-in_limits
unfolding directory_right
returns-then-not-in_limits c = simp (sym c.in_limits.ensures ∙ c.if-not-in_limits.true)

pub overflow_mul-variables : goal.overflow_mul-variables
unfolding directory_right
overflow_mul-variables c = let l = sized (goal.at.overflow_mul-variables c).Else-not-in_limits in omega arith

pub overflow_mul-statements : goal.overflow_mul-statements
unfolding directory_right
overflow_mul-statements c = let l = sized (goal.at.overflow_mul-statements c).Else-not-in_limits in omega arith

pub overflow_add-second : goal.overflow_add-second
unfolding directory_right
overflow_add-second c = let l = sized (goal.at.overflow_add-second c).Else-not-in_limits in omega arith

pub overflow_add-third : goal.overflow_add-third
unfolding directory_right
overflow_add-third c = let l = sized (goal.at.overflow_add-third c).Else-not-in_limits in omega arith

pub overflow_add-end : goal.overflow_add-end
unfolding directory_right
overflow_add-end c = let l = sized (goal.at.overflow_add-end c).Else-not-in_limits in omega arith

pub overflow_mul-end : goal.overflow_mul-end
unfolding directory_right
overflow_mul-end c = let l = sized (goal.at.overflow_mul-end c).Else-not-in_limits in omega arith

pub overflow_add-end-2 : goal.overflow_add-end-2
unfolding directory_right
overflow_add-end-2 c = let l = sized (goal.at.overflow_add-end-2 c).Else-not-in_limits in omega arith

pub fourth_right-requires : goal.fourth_right-requires
unfolding directory_right
fourth_right-requires c = sym c.in_limits.ensures
    ∙ c.if-not-in_limits.false

pub returns : goal.returns
unfolding directory_right
returns c = simp (
  c.fourth_right.ensures,
  c.is_number-6.ensures,
  c.word-6.ensures,
  c.is_number-5.ensures,
  c.word-5.ensures,
  c.is_number-4.ensures,
  c.word-4.ensures,
  c.is_number-3.ensures,
  c.word-3.ensures,
  c.is_number-2.ensures,
  c.word-2.ensures,
  c.is_number.ensures,
  c.word.ensures,
  sym c.in_limits.ensures
      ∙ c.if-not-in_limits.false,
)
