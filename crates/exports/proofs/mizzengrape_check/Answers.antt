-- `exports::mizzengrape_check` meets its contract.
use borrow.Author.Rules.{rules}
use Rattle.rules.proofs.SmallLaws.{judged-small}
use Rattle.exports.specs.WordLaws.{no_room, checked-words}
use Rattle.exports.proofs.mizzengrape_check.Goals as goal

pub returns-then-answer-lt3 : goal.returns-then-answer-lt3
returns-then-answer-lt3 c = no_room c.if-answer-lt3.true

pub put_verdict-requires : goal.put_verdict-requires
put_verdict-requires c = (search rules, rw c.verdict_of.ensures (judged-small _ _ _ _ c.check.ensures.0))

pub returns : goal.returns
returns c = checked-words _ c.if-answer-lt3.false c.check.ensures.0
    (rw c.verdict_of.ensures at c.put_verdict.ensures)
