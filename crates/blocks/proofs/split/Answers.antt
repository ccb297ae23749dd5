use native.Mathlib.Omega.{arith}
use Rattle.blocks.specs.PartsLaws.{blocks-past, blocks-within}
use Rattle.blocks.proofs.split.Goals as goal

pub returns-then-then-end : goal.returns-then-then-end
returns-then-then-end c = blocks-past _ _ _ _ (omega arith)

pub returns-then-other-end : goal.returns-then-other-end
returns-then-other-end c = blocks-past _ _ _ _ (omega arith)

pub returns : goal.returns
returns c = blocks-within _ _ _ _ (omega arith)
