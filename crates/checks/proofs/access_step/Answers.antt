use Rattle.checks.proofs.access_step.Goals as goal

pub returns-then-null : goal.returns-then-null
returns-then-null c = rw c.if-null.true

pub returns-then-outside : goal.returns-then-outside
returns-then-outside c = rw (c.if-null.false, c.if-outside.true)

pub returns-then-spoils : goal.returns-then-spoils
returns-then-spoils c = rw (c.if-null.false, c.if-outside.false, c.if-spoils.true)

pub returns : goal.returns
returns c = rw (c.if-null.false, c.if-outside.false, c.if-spoils.false)
