-- `lines::report::corrected_line` meets its contract.
use Rattle.std.proofs.Common.{rules}
use Rattle.text.specs.Text.{bytes_of}
use Rattle.text.specs.TextLaws.{grown-both}
use Rattle.lines.specs.Report.{corrected_line}
use Rattle.lines.proofs.report.corrected_line.Goals as goal

pub returns : goal.returns
unfolding bytes_of corrected_line
returns c = record {
  text = (grown-both (grown-both (grown-both c.new.ensures c.put-head.ensures.0) c.put.ensures.0) c.push.ensures).text;
  fits = search rules;
}
