-- `lines::report::put_check` meets its contract.
use Rattle.std.proofs.Common.{rules}
use Rattle.text.specs.Text.{bytes_of}
use Rattle.text.specs.TextLaws.{grown-both}
use Rattle.lines.specs.ReportLaws.{stopped-at}
use Rattle.lines.proofs.report.put_check.Goals as goal

pub returns : goal.returns
unfolding bytes_of
returns c = (
  stopped-at _ c.number-number.ensures c.statement-place.ensures (grown-both c.put-start.ensures.0 c.put.ensures.0),
  search rules,
)
