-- `sets::member::member_word` meets its contract.
use mathlib.Core.Path.{◌∙◌}
use mir.Syntax.{w32}
use mir.Facts.{to_z-of_z}
use Rattle.sets.specs.MemberLaws.{word-object, word-behind}
use Rattle.sets.proofs.member.member_word.Goals as goal

pub returns-then-i-start : goal.returns-then-i-start
returns-then-i-start c = to_z-of_z {w = w32} {z = c.head_word.result} (record { sfits = c.head_word.type_inv }) ∙ c.head_word.ensures

pub returns-then-i-start-2 : goal.returns-then-i-start-2
returns-then-i-start-2 c = to_z-of_z {w = w32} {z = c.signed_word.result} (record { sfits = c.signed_word.type_inv }) ∙ c.signed_word.ensures
    ∙ word-object c.requires.0 _ c.if-i-start.false c.if-i-start-2.true

pub returns : goal.returns
returns c = to_z-of_z {w = w32} {z = c.signed_word-2.result} (record { sfits = c.signed_word-2.type_inv }) ∙ c.signed_word-2.ensures
    ∙ word-behind c.requires.0 _ c.if-i-start-2.false
