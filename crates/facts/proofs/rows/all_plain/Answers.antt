-- `facts::rows::all_plain` meets its contract: each turn asks one more sum.
use Prim.Native.Nat.{◌-◌}
use Rattle.facts.specs.PlainLaws.{all-plain-none, all-plain-more, all-plain-whole}
use Rattle.facts.proofs.rows.all_plain.Goals as goal

pub loop-j-init : goal.loop-j-init
loop-j-init c = λ h. all-plain-none _

pub loop-j-preserved : goal.loop-j-preserved
loop-j-preserved c = all-plain-more _ _ c.loop-j.invariant c.is_plain-plain.ensures

pub returns : goal.returns
returns c = λ h. all-plain-whole c.loop-j-test.false (c.loop-j.invariant h)
