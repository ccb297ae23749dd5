use native.Mathlib.Omega.{arith}
use Rattle.edits.specs.EditLaws.{text-record, text-words, text-refused, text-none, text-more, text-right}
use Rattle.edits.proofs.judge_text.Goals as goal

pub returns-then-lowest_statement-count : goal.returns-then-lowest_statement-count
returns-then-lowest_statement-count c = text-record _ _ _ (omega (arith, c.lowest_statement.ensures, c.if-lowest_statement-count.true))

pub returns-then-size-count : goal.returns-then-size-count
returns-then-size-count c = text-words _ _ _ (omega (arith, c.lowest_statement.ensures, c.if-lowest_statement-count.false)) c.if-size-count.true

pub returns-in_default : goal.returns-in_default
returns-in_default c = text-refused _ _ _ (omega (arith, c.lowest_statement.ensures, c.if-lowest_statement-count.false))
    c.if-size-count.false c.read_layout-layout.ensures c.in_default.is

pub returns-then-count-eq0 : goal.returns-then-count-eq0
returns-then-count-eq0 c = text-none _ _ _
    (omega (arith, c.lowest_statement.ensures, c.if-lowest_statement-count.false))
    c.if-size-count.false c.read_layout-layout.ensures c.in-Ok.is c.if-count-eq0.true

pub returns-then-span-count : goal.returns-then-span-count
returns-then-span-count c = text-more _ _ _
    (omega (
      arith,
      c.lowest_statement.ensures,
      c.if-lowest_statement-count.false,
    )) c.if-size-count.false
    c.read_layout-layout.ensures c.in-Ok.is c.if-count-eq0.false
    c.span.ensures.0 c.if-span-count.true

pub returns : goal.returns
returns c = text-right _ _ _
    (omega (
      arith,
      c.lowest_statement.ensures,
      c.if-lowest_statement-count.false,
    )) c.if-size-count.false
    c.read_layout-layout.ensures c.in-Ok.is c.if-count-eq0.false
    c.span.ensures.0 c.if-span-count.false
