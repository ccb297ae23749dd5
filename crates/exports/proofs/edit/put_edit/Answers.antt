-- `exports::edit::put_edit` meets its contract.
use native.Mathlib.Omega.{arith}
use borrow.Author.Rules.{rules}
use lib.ListN.{length-set}
use Rattle.exports.specs.EditWordLaws.{verdict-long, put-words}
use Rattle.exports.proofs.edit.put_edit.Goals as goal

pub put_verdict-requires : goal.put_verdict-requires
put_verdict-requires c = (search rules, c.requires.1.verdict)

pub overflow_cast-answer : goal.overflow_cast-answer
overflow_cast-answer c = omega (arith, c.requires.1.walked)

pub bounds-answer-3 : goal.bounds-answer-3
bounds-answer-3 c = omega (arith, verdict-long _ _ c.put_verdict.ensures, c.requires.0)

pub bounds-answer-4 : goal.bounds-answer-4
bounds-answer-4 c = simp length-set
    (omega (
      arith,
      verdict-long _ _ c.put_verdict.ensures,
      c.requires.0,
    ))

pub bounds-answer-5 : goal.bounds-answer-5
bounds-answer-5 c = simp length-set
    (omega (
      arith,
      verdict-long _ _ c.put_verdict.ensures,
      c.requires.0,
    ))

pub shape_of-answer : goal.shape_of-answer
shape_of-answer c = simp length-set (verdict-long _ _ c.put_verdict.ensures)

pub returns : goal.returns
returns c = put-words _ _ c.put_verdict.ensures c.length_word.ensures c.flag_of.ensures
