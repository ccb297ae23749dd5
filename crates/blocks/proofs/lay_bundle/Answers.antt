use mathlib.Core.Path.{ap, ◌∙◌}
use native.Mathlib.Omega.{arith}
use Rattle.blocks.specs.Parts.{verdict}
use Rattle.blocks.specs.LayoutLaws.{bundle-zero, bundle-great, bundle-past, bundle-held}
use Rattle.blocks.proofs.lay_bundle.Goals as goal

pub returns-then-count-eq0 : goal.returns-then-count-eq0
returns-then-count-eq0 c = bundle-zero _ _ _ _ _ c.if-count-eq0.true

pub returns-then-count-gt-MAX_BUNDLE : goal.returns-then-count-gt-MAX_BUNDLE
returns-then-count-gt-MAX_BUNDLE c = bundle-great _ _ _ _ _ c.if-count-eq0.false c.if-count-gt-MAX_BUNDLE.true

pub returns-then-count-end : goal.returns-then-count-end
returns-then-count-end c = bundle-past _ _ _ _ _ c.if-count-eq0.false c.if-count-gt-MAX_BUNDLE.false (omega arith)

pub returns : goal.returns
returns c = c.lay_contents.ensures ∙ ap verdict (bundle-held _ _ _ _ _ c.if-count-eq0.false c.if-count-gt-MAX_BUNDLE.false (omega arith))
