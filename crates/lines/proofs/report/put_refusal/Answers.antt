-- `lines::report::put_refusal` meets its contract.
use Rattle.std.proofs.Common.{rules}
use Rattle.text.specs.Text.{bytes_of}
use Rattle.text.specs.TextLaws.{grown-both}
use Rattle.lines.specs.ReportLaws.{refused-eight, refused-other}
use Rattle.lines.proofs.report.put_refusal.Goals as goal

pub returns-then-number-eq8 : goal.returns-then-number-eq8
unfolding bytes_of
returns-then-number-eq8 c = (
  refused-eight _ c.number-number.ensures c.place-place.ensures c.pointer-pointer.ensures c.if-number-eq8.true
      (grown-both c.put-start.ensures.0 (grown-both c.put-at.ensures.0 c.put.ensures.0)),
  search rules,
)

pub returns : goal.returns
unfolding bytes_of
returns c = (
  refused-other _ c.number-number.ensures c.place-place.ensures c.if-number-eq8.false
      (grown-both c.put-start.ensures.0 c.put-2.ensures.0),
  search rules,
)
