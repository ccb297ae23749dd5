use native.Mathlib.Omega.{arith}
use borrow.Author.Rules.{rules}
use Rattle.exports.specs.EditWordLaws.{no-edit, edit-words}
use Rattle.exports.proofs.edit.mizzengrape_edit.Goals as goal

pub returns-then-answer-lt6 : goal.returns-then-answer-lt6
returns-then-answer-lt6 c = no-edit c.if-answer-lt6.true

pub put_edit-requires : goal.put_edit-requires
put_edit-requires c = (search rules, c.edit_table-said.ensures.small (omega arith))

pub returns : goal.returns
returns c = edit-words _ _ c.if-answer-lt6.false
    c.edit_of-edit.ensures
    c.edit_table-said.ensures c.put_edit.ensures
