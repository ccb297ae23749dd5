-- `exports::put_reported` meets its contract.
use mathlib.Core.Path.{sym, ◌∙◌}
use Rattle.exports.specs.Numbers.{put_some, put-skip}
use Rattle.exports.proofs.put_reported.Goals as goal

pub returns-then-has : goal.returns-then-has
returns-then-has c = put_some _ _ _ _ (sym c.has.ensures ∙ c.if-has.true)

pub returns : goal.returns
returns c = put-skip _ _ _ _ (sym c.has.ensures ∙ c.if-has.false)
