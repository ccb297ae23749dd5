use mathlib.Core.List.{List}
use lib.IntN.{ℤ}
use Rattle.words.specs.declared.sections.Sections.{Sections}
use mathlib.Core.Path.{◌∙◌, ap₂}
use native.Mathlib.Omega.{arith}
use lib.ListN.{length-take, length}
use Rattle.edits.specs.Edited.{text_of}
use Rattle.edits.specs.EditLaws.{text-made}
use Rattle.edits.proofs.check_text.Goals as goal

pub slice_bounds-judge_text-end : goal.slice_bounds-judge_text-end
slice_bounds-judge_text-end c = simp length-take
    (omega (
      arith,
      c.fill_edited.ensures.long,
      c.requires.few,
      c.requires.sizes.objects,
      c.requires.sizes.variables,
      c.requires.sizes.start,
      c.requires.sizes.rows,
    ))

pub judge_text-requires : goal.judge_text-requires
judge_text-requires c = rw c.edited_sections-alone.ensures (omega (arith, c.requires.few))

pub returns : goal.returns
returns c = c.judge_text.ensures
    ∙ ap₂ (λ (U : List ℤ) (g : Sections). text_of U g (length c.args.text.now))
    (text-made _ _ _ _ _ c.fill_edited.ensures (omega arith)
    (omega (arith, c.requires.few, c.requires.sizes.objects, c.requires.sizes.variables, c.requires.sizes.start, c.requires.sizes.rows)))
    c.edited_sections-alone.ensures
