-- `lines::report::first_row_line` meets its contract.
use Rattle.std.proofs.Common.{rules}
use Rattle.text.specs.Text.{bytes_of}
use Rattle.text.specs.TextLaws.{grown-both}
use Rattle.lines.specs.ReportLaws.{same_row, other_row}
use Rattle.lines.proofs.report.first_row_line.Goals as goal

pub returns-then-before-after : goal.returns-then-before-after
unfolding bytes_of
returns-then-before-after c = same_row (search rules) c.if-before-after.true (grown-both (grown-both c.new-text.ensures c.put.ensures.0) c.push.ensures)

pub returns : goal.returns
unfolding bytes_of
returns c = other_row (search rules) c.if-before-after.false
    (grown-both (grown-both (grown-both c.new-text.ensures c.put-start.ensures.0) c.put-2.ensures.0) c.push-2.ensures)
