use native.Mathlib.Omega.{arith}
use Rattle.words.specs.SectionsLaws.{limits}
use Rattle.table.specs.Form.{fourth_right}
use Rattle.table.proofs.fourth_right.Goals as goal

pub overflow_add-rows : goal.overflow_add-rows
unfolding fourth_right
overflow_add-rows c = let l = limits _ c.requires in omega arith

pub overflow_mul-rows : goal.overflow_mul-rows
unfolding fourth_right
overflow_mul-rows c = let l = limits _ c.requires in omega arith

pub overflow_add-rows-2 : goal.overflow_add-rows-2
unfolding fourth_right
overflow_add-rows-2 c = let l = limits _ c.requires in omega arith

pub overflow_mul-rows-2 : goal.overflow_mul-rows-2
unfolding fourth_right
overflow_mul-rows-2 c = let l = limits _ c.requires in omega arith

pub overflow_add-rows-3 : goal.overflow_add-rows-3
unfolding fourth_right
overflow_add-rows-3 c = let l = limits _ c.requires in omega arith

pub overflow_mul-sections : goal.overflow_mul-sections
unfolding fourth_right
overflow_mul-sections c = let l = limits _ c.requires in omega arith

pub returns : goal.returns
unfolding fourth_right
returns c = simp (
  c.is_number-2.ensures,
  c.word-2.ensures,
  c.is_number.ensures,
  c.word.ensures,
)
