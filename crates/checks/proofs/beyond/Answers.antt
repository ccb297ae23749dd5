use Rattle.checks.proofs.beyond.Goals as goal

pub returns-then-string : goal.returns-then-string
returns-then-string c = rw c.if-string.true

pub returns : goal.returns
returns c = rw c.if-string.false
