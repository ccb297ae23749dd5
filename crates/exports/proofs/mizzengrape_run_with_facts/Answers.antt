-- `exports::mizzengrape_run_with_facts` meets its contract.
use borrow.Author.Rules.{rules}
use Rattle.interpreter.specs.SmallLaws.{run_small}
use Rattle.exports.specs.WordLaws.{no-room-to-run, ran-words}
use Rattle.exports.proofs.mizzengrape_run_with_facts.Goals as goal

pub returns-then-answer-lt4 : goal.returns-then-answer-lt4
returns-then-answer-lt4 c = no-room-to-run c.if-answer-lt4.true

pub put_outcome-requires : goal.put_outcome-requires
put_outcome-requires c = (search rules, run_small _ _ _ _ _ c.run-outcome.ensures)

pub returns : goal.returns
returns c = ran-words _ c.if-answer-lt4.false
    c.run-outcome.ensures c.put_outcome.ensures
