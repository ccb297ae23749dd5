use native.Mathlib.Omega.{arith}
use Rattle.rules.specs.RuleLaws.{limit-some, limit-all}
use Rattle.rules.proofs.declarations.upper_limit.Goals as goal

pub overflow_sub-result : goal.overflow_sub-result
overflow_sub-result c = let l = limit-some c.args.terminated c.args.high c.if-terminated-high.true in omega (arith, l.0)

pub returns-then-terminated-high : goal.returns-then-terminated-high
returns-then-terminated-high c = ((limit-some _ _ c.if-terminated-high.true).1, omega arith)

pub returns : goal.returns
returns c = (limit-all _ _ c.if-terminated-high.false, omega arith)
