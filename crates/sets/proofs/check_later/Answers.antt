-- `sets::check_later` meets its contract.
use mathlib.Core.Path.{◌∙◌, refl, sym, ap}
use native.Mathlib.Omega.{arith}
use lib.ListN.{length}
use Rattle.words.specs.declared.sections.Sections.{Sections}
use Rattle.declared.specs.Callee.{none-called}
use Rattle.sets.specs.CheckedLaws.{later-wrong, later-lists, later-put}
use Rattle.sets.proofs.check_later.Goals as goal

pub returns-then-not-head_right-clause-value : goal.returns-then-not-head_right-clause-value
returns-then-not-head_right-clause-value c = later-wrong _ _ _ (sym c.head_right.ensures ∙ c.if-not-head_right.true) (none-called _ _ refl)
    c.check_routine.ensures

pub returns-then-sections-ne0-clause-value : goal.returns-then-sections-ne0-clause-value
returns-then-sections-ne0-clause-value c = later-lists _ _ _ (sym c.head_right.ensures ∙ c.if-not-head_right.false)
    (λ z. c.if-sections-ne0.true (ap (λ (g : Sections). g.objects) c.sections_of-sections.ensures ∙ z))

pub put_objects-count-requires : goal.put_objects-count-requires
put_objects-count-requires c = (
  c.requires.0,
  (sym c.head_right.ensures ∙ c.if-not-head_right.false),
  ap (λ (g : Sections). g.objects)
      (sym c.sections_of-sections.ensures) ∙ c.if-sections-ne0.false,
  c.requires.1,
)

pub slice_bounds-check_routine-end-2 : goal.slice_bounds-check_routine-end-2
slice_bounds-check_routine-end-2 c = omega (
  arith,
  c.put_objects-count.ensures.within,
  c.put_objects-count.ensures.long,
  c.requires.1,
)

pub slice_bounds-check_routine-end-3 : goal.slice_bounds-check_routine-end-3
slice_bounds-check_routine-end-3 c = c.put_objects-count.ensures.counted ∙ ap length (sym c.put_objects-count.ensures.front)

pub shape_of-member : goal.shape_of-member
shape_of-member c = c.put_objects-count.ensures.long

pub returns-clause-value : goal.returns-clause-value
returns-clause-value c = later-put _ _ _ (sym c.head_right.ensures
    ∙ c.if-not-head_right.false)
    (ap (λ (g : Sections). g.objects) (sym c.sections_of-sections.ensures)
    ∙ c.if-sections-ne0.false) c.put_objects-count.ensures.front c.check_routine-2.ensures

pub returns-clause-long : goal.returns-clause-long
returns-clause-long c = c.put_objects-count.ensures.long
