use native.Mathlib.Omega.{arith}
use Prim.Native.Nat.{◌<◌}
use mathlib.Core.Path.{◌∙◌, sym}
use Rattle.words.specs.Sections.{kind_at, Limits}
use Rattle.words.specs.SectionsLaws.{variable-limits}
use Rattle.words.proofs.sections.kind_at.Goals as goal

pub overflow_add-sections : goal.overflow_add-sections
unfolding kind_at
overflow_add-sections c =
    -- past the test the sections are in their limits, and there is such a variable
    let l = variable-limits _ _ (sym c.is_variable.ensures ∙ c.if-is_variable.true) in omega arith

pub overflow_mul-v : goal.overflow_mul-v
unfolding kind_at
overflow_mul-v c =
    -- past the test the sections are in their limits, and there is such a variable
    let l = variable-limits _ _ (sym c.is_variable.ensures ∙ c.if-is_variable.true) in omega arith

pub overflow_add-sections-then-is_variable : goal.overflow_add-sections-then-is_variable
unfolding kind_at
overflow_add-sections-then-is_variable c =
    -- past the test the sections are in their limits, and there is such a variable
    let l = variable-limits _ _ (sym c.is_variable.ensures ∙ c.if-is_variable.true) in omega arith

pub returns-then-is_variable : goal.returns-then-is_variable
unfolding kind_at
returns-then-is_variable c = simp (
  c.kind_of.ensures,
  c.word.ensures,
  sym c.is_variable.ensures
      ∙ c.if-is_variable.true,
)

pub returns : goal.returns
unfolding kind_at
returns c = simp (sym c.is_variable.ensures ∙ c.if-is_variable.false)
