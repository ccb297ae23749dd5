use mathlib.Core.Path.{◌∙◌}
use mir.Syntax.{w32}
use mir.Facts.{to_z-of_z}
use Rattle.edits.specs.EditLaws.{word-five, word-six, word-before, word-new, word-old}
use Rattle.edits.proofs.edited_word.Goals as goal

pub returns-then-i-eq5 : goal.returns-then-i-eq5
returns-then-i-eq5 c = to_z-of_z {w = w32} {z = c.number_word.result} (record { sfits = c.number_word.type_inv }) ∙ c.number_word.ensures
    ∙ word-five _ _ _ _ _ _ _ c.if-i-eq5.true

pub returns-then-i-sections : goal.returns-then-i-sections
returns-then-i-sections c = to_z-of_z {w = w32} {z = c.number_word-then-i-sections.result} (record { sfits = c.number_word-then-i-sections.type_inv })
    ∙ c.number_word-then-i-sections.ensures
    ∙ word-six _ _ _ _ _ _ _ c.if-i-eq5.false c.if-i-sections.true

pub returns-then-i-start : goal.returns-then-i-start
returns-then-i-start c = to_z-of_z {w = w32} {z = c.signed_word.result} (record { sfits = c.signed_word.type_inv }) ∙ c.signed_word.ensures
    ∙ word-before _ _ _ _ _ _ _ c.if-i-eq5.false c.if-i-sections.false c.if-i-start.true

pub returns-then-i-first : goal.returns-then-i-first
returns-then-i-first c = to_z-of_z {w = w32} {z = c.signed_word-then-i-first.result} (record { sfits = c.signed_word-then-i-first.type_inv })
    ∙ c.signed_word-then-i-first.ensures
    ∙ word-new _ _ _ _ _ _ _ c.if-i-eq5.false c.if-i-sections.false
    c.if-i-start.false c.if-i-first.true

pub returns : goal.returns
returns c = to_z-of_z {w = w32} {z = c.signed_word-2.result} (record { sfits = c.signed_word-2.type_inv }) ∙ c.signed_word-2.ensures
    ∙ word-old _ _ _ _ _ _ _ c.if-i-eq5.false c.if-i-sections.false
    c.if-i-start.false c.if-i-first.false
