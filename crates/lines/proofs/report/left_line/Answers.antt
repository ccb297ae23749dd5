-- `lines::report::left_line` meets its contract.
use Rattle.std.proofs.Common.{rules}
use Rattle.text.specs.Text.{bytes_of}
use Rattle.text.specs.TextLaws.{grown-both}
use Rattle.lines.specs.ReportLaws.{full, some_left}
use Rattle.lines.proofs.report.left_line.Goals as goal

pub returns-then-rows-eq0 : goal.returns-then-rows-eq0
unfolding bytes_of
returns-then-rows-eq0 c = full (search rules) c.if-rows-eq0.true (grown-both c.new.ensures c.push_all.ensures)

pub returns : goal.returns
unfolding bytes_of
returns c = some_left (search rules) c.if-rows-eq0.false (grown-both (grown-both c.new-2.ensures c.put.ensures.0) c.push.ensures)
