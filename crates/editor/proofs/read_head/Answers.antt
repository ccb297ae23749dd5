use mathlib.Core.Path.{sym, ◌∙◌}
use native.Mathlib.Omega.{arith}
use lib.ListN.{length-take}
use Rattle.words.specs.SectionsLaws.{limits}
use Rattle.editor.specs.EditLaws.{head-outside, head-long, head-wrong, head-here}
use Rattle.editor.proofs.read_head.Goals as goal

pub returns-then-not-in_limits : goal.returns-then-not-in_limits
returns-then-not-in_limits c = head-outside _ c.sections_of-sections.ensures c.in_limits.ensures (c.if-not-in_limits.true)

pub end_of-end-requires : goal.end_of-end-requires
end_of-end-requires c = limits _ (sym c.in_limits.ensures ∙ c.if-not-in_limits.false)

pub returns-then-end-buffer : goal.returns-then-end-buffer
returns-then-end-buffer c = head-long _ c.sections_of-sections.ensures c.in_limits.ensures
    (c.if-not-in_limits.false) c.end_of-end.ensures c.if-end-buffer.true

pub slice_bounds-head_right-end : goal.slice_bounds-head_right-end
slice_bounds-head_right-end c = simp length-take (omega (arith, c.if-end-buffer.false))

pub returns-then-not-head_right : goal.returns-then-not-head_right
returns-then-not-head_right c = head-wrong _ c.sections_of-sections.ensures
    c.in_limits.ensures (c.if-not-in_limits.false)
    c.end_of-end.ensures
    c.if-end-buffer.false c.head_right.ensures (c.if-not-head_right.true)

pub returns : goal.returns
returns c = head-here _ c.sections_of-sections.ensures
    c.in_limits.ensures (c.if-not-in_limits.false)
    c.end_of-end.ensures
    c.if-end-buffer.false c.head_right.ensures (c.if-not-head_right.false)
