-- `lines::report::row_line` meets its contract.
use Rattle.std.proofs.Common.{rules}
use Rattle.text.specs.Text.{bytes_of}
use Rattle.text.specs.TextLaws.{grown-both}
use Rattle.lines.specs.ReportLaws.{free-row, taken-row}
use Rattle.lines.proofs.report.row_line.Goals as goal

pub returns-then-boat-eq0 : goal.returns-then-boat-eq0
unfolding bytes_of
returns-then-boat-eq0 c = free-row (search rules) _ c.if-boat-eq0.true (grown-both (grown-both c.new.ensures c.put-start.ensures.0) c.push_all.ensures)

pub returns : goal.returns
unfolding bytes_of
returns c = taken-row (search rules) _ c.if-boat-eq0.false
    (grown-both (grown-both c.new.ensures c.put-start.ensures.0) (grown-both c.put.ensures.0 c.push.ensures))
