use native.Mathlib.Omega.{arith}
use Rattle.words.specs.SectionsLaws.{object-limits}
use Rattle.words.specs.Sections.{object_terminated}
use Rattle.words.proofs.sections.object_terminated.Goals as goal

pub overflow_add-sections : goal.overflow_add-sections
unfolding object_terminated
overflow_add-sections c = let l = object-limits _ _ (simp c.in_limits.ensures at c.if-in_limits-o.true) in omega arith

pub returns-then-in_limits-o : goal.returns-then-in_limits-o
unfolding object_terminated
returns-then-in_limits-o c = simp (c.word.ensures, simp c.in_limits.ensures at c.if-in_limits-o.true)

pub returns : goal.returns
unfolding object_terminated
returns c = simp (simp c.in_limits.ensures at c.if-in_limits-o.false)
