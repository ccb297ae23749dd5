use native.Mathlib.Omega.{arith}
use borrow.Author.Rules.{rules}
use lib.ListN.{length-take}
use Rattle.editor.specs.SmallLaws.{started-small}
use Rattle.exports.specs.EditWordLaws.{no_start, start-words}
use Rattle.exports.proofs.edit.mizzengrape_edit_start.Goals as goal

pub returns-then-answer-lt6 : goal.returns-then-answer-lt6
returns-then-answer-lt6 c = no_start c.if-answer-lt6.true

pub slice_bounds-start-end : goal.slice_bounds-start-end
slice_bounds-start-end c = simp length-take (omega (arith, c.cut_at-size.ensures))

pub put_edit-requires : goal.put_edit-requires
put_edit-requires c = (search rules, started-small _ _ c.start-said.ensures)

pub returns : goal.returns
returns c = start-words _ _ _ c.if-answer-lt6.false
    c.cut_at-size.ensures
    c.start-said.ensures c.put_edit.ensures
