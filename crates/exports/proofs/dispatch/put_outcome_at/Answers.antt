-- `exports::dispatch::put_outcome_at` meets its contract.
use Rattle.exports.specs.DispatchLaws.{tail-put}
use Rattle.exports.proofs.dispatch.put_outcome_at.Goals as goal

pub returns : goal.returns
returns c = tail-put c.args.at _ c.args.answer.now _
    c.put_outcome.ensures
