-- `lines::refused_line` meets its contract: each call adds its part to the line.
use Rattle.std.proofs.Common.{arith}
use Rattle.text.specs.Text.{bytes_of}
use Rattle.text.specs.TextLaws.{grown-both, within}
use Rattle.lines.specs.Lines.{refused_word}
use Rattle.lines.specs.LineLaws.{line-of-eight, line-of-other}
use Rattle.lines.proofs.refused_line.Goals as goal

pub push-requires : goal.push-requires
push-requires c = omega (arith, within 20 _ c.push_number.ensures, c.push_all.ensures.long, c.new.ensures.long)

pub push_number-start-requires : goal.push_number-start-requires
push_number-start-requires c = omega (
  arith,
  c.push.ensures.long,
  within 20 _ c.push_number.ensures,
  c.push_all.ensures.long,
  c.new.ensures.long,
)

pub push-requires-then-number-eq8 : goal.push-requires-then-number-eq8
push-requires-then-number-eq8 c = omega (
  arith,
  within 20 _ c.push_number-start.ensures,
  c.push.ensures.long,
  within 20 _ c.push_number.ensures,
  c.push_all.ensures.long,
  c.new.ensures.long,
)

pub push_number-requires-then-number-eq8 : goal.push_number-requires-then-number-eq8
push_number-requires-then-number-eq8 c = omega (
  arith,
  c.push-then-number-eq8.ensures.long,
  within 20 _ c.push_number-start.ensures,
  c.push.ensures.long,
  within 20 _ c.push_number.ensures,
  c.push_all.ensures.long,
  c.new.ensures.long,
)

pub push-requires-then-number-eq8-2 : goal.push-requires-then-number-eq8-2
push-requires-then-number-eq8-2 c = omega (
  arith,
  within 20 _ c.push_number-then-number-eq8.ensures,
  c.push-then-number-eq8.ensures.long,
  within 20 _ c.push_number-start.ensures,
  c.push.ensures.long,
  within 20 _ c.push_number.ensures,
  c.push_all.ensures.long,
  c.new.ensures.long,
)

pub returns-then-number-eq8 : goal.returns-then-number-eq8
unfolding bytes_of refused_word
returns-then-number-eq8 c = record {
  fits = omega (
    arith,
    c.push-then-number-eq8-2.ensures.long,
    within 20 _ c.push_number-then-number-eq8.ensures,
    c.push-then-number-eq8.ensures.long,
    within 20 _ c.push_number-start.ensures,
    c.push.ensures.long,
    within 20 _ c.push_number.ensures,
    c.push_all.ensures.long,
    c.new.ensures.long,
  );
  text = line-of-eight c.args.r c.number-number.ensures c.place.ensures c.pointer.ensures c.if-number-eq8.true
      (grown-both (grown-both
      (grown-both (grown-both
      (grown-both (grown-both
      (grown-both c.new.ensures c.push_all.ensures) c.push_number.ensures)
      c.push.ensures) c.push_number-start.ensures)
      c.push-then-number-eq8.ensures) c.push_number-then-number-eq8.ensures)
      c.push-then-number-eq8-2.ensures);
}

pub push-requires-2 : goal.push-requires-2
push-requires-2 c = omega (
  arith,
  within 20 _ c.push_number-start.ensures,
  c.push.ensures.long,
  within 20 _ c.push_number.ensures,
  c.push_all.ensures.long,
  c.new.ensures.long,
)

pub returns : goal.returns
unfolding bytes_of refused_word
returns c = record {
  fits = omega (
    arith,
    c.push-2.ensures.long,
    within 20 _ c.push_number-start.ensures,
    c.push.ensures.long,
    within 20 _ c.push_number.ensures,
    c.push_all.ensures.long,
    c.new.ensures.long,
  );
  text = line-of-other c.args.r c.number-number.ensures c.place.ensures c.if-number-eq8.false
      (grown-both (grown-both
      (grown-both (grown-both
      (grown-both c.new.ensures c.push_all.ensures) c.push_number.ensures)
      c.push.ensures) c.push_number-start.ensures) c.push-2.ensures);
}
