-- `text::Text::push_digits` meets its contract.
use Rattle.text.specs.TextLaws.{grown-none, grown-digit, grown-digits, room}
use Rattle.text.proofs.Text.+push_digits.Goals as goal

pub returns-then-digits-eq0 : goal.returns-then-digits-eq0
returns-then-digits-eq0 t c = grown-none _ _ c.if-digits-eq0.true

pub returns-then-n-lt10 : goal.returns-then-n-lt10
returns-then-n-lt10 t c = grown-digit c.if-digits-eq0.false c.if-n-lt10.true c.push.ensures

pub push-requires-2 : goal.push-requires-2
push-requires-2 t c = room _ c.if-digits-eq0.false c.requires c.push_digits.ensures

pub returns : goal.returns
returns t c = grown-digits c.if-digits-eq0.false c.if-n-lt10.false c.push_digits.ensures c.push-2.ensures
