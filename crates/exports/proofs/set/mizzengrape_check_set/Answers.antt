use borrow.Author.Rules.{rules}
use Rattle.exports.specs.SetWordLaws.{checked-fits, no_answer, no_member, checked-set}
use Rattle.exports.proofs.set.mizzengrape_check_set.Goals as goal

pub returns-then-answer-lt4 : goal.returns-then-answer-lt4
returns-then-answer-lt4 c = no_answer c.if-answer-lt4.true

pub returns-in_default : goal.returns-in_default
returns-in_default c = no_member c.check_set-checked.ensures c.in_default.is

pub put_set_verdict-requires : goal.put_set_verdict-requires
put_set_verdict-requires c = let s = checked-fits _ _ c.check_set-checked.ensures c.in-Some.is in
    (search rules, s.0, s.1)

pub returns : goal.returns
returns c = checked-set c.if-answer-lt4.false
    c.check_set-checked.ensures c.in-Some.is
    c.put_set_verdict.ensures
