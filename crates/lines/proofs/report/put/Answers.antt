-- `lines::report::put` meets its contract.
use native.Mathlib.Omega.{arith}
use Rattle.text.specs.TextLaws.{grown-both, within}
use Rattle.lines.proofs.report.put.Goals as goal

pub returns : goal.returns
returns c = (
  grown-both c.push_all.ensures c.push_number.ensures,
  omega
      (arith, within 20 _ c.push_number.ensures, c.push_all.ensures.long),
)
