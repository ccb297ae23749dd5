-- `exports::dispatch::mizzengrape_dispatch` meets its contract.
use Rattle.exports.specs.DispatchLaws.{no-words, said-answered, said-small}
use Rattle.exports.proofs.dispatch.mizzengrape_dispatch.Goals as goal

pub returns-then-answer-lt37 : goal.returns-then-answer-lt37
returns-then-answer-lt37 c = no-words _ _ _ _ _ _ c.if-answer-lt37.true

pub put_said-requires : goal.put_said-requires
put_said-requires c = (
  said-small _ _ _ _ _ _ _ _ c.dispatch-dispatched.ensures,
  c.if-answer-lt37.false,
)

pub returns : goal.returns
returns c = said-answered _ _ _ _ _ _ _ _ _ _ _
    c.if-answer-lt37.false _
    c.dispatch-dispatched.ensures
    c.put_said.ensures.0 c.put_said.ensures.1
