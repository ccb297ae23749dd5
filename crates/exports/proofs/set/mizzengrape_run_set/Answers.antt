use borrow.Author.Rules.{rules}
use Rattle.exports.specs.SetWordLaws.{ran-fits, no_run, no-run-room, ran-set}
use Rattle.exports.proofs.set.mizzengrape_run_set.Goals as goal

pub returns-then-answer-lt5 : goal.returns-then-answer-lt5
returns-then-answer-lt5 c = no_run c.if-answer-lt5.true

pub returns-in_default : goal.returns-in_default
returns-in_default c = no-run-room c.run_set-ran.ensures c.in_default.is

pub put_set_outcome-requires : goal.put_set_outcome-requires
put_set_outcome-requires c = let s = ran-fits _ _ _ _ _ _
    c.run_set-ran.ensures
    c.in-Some.is in (search rules, s.0, s.1)

pub returns : goal.returns
returns c = ran-set c.if-answer-lt5.false
    c.run_set-ran.ensures
    c.in-Some.is c.put_set_outcome.ensures
