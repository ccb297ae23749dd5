use Rattle.exports.specs.EditWordLaws.{inserts, replaces, removes, unknown}
use Rattle.exports.proofs.edit.edit_of.Goals as goal

pub returns-then-operation-eq0 : goal.returns-then-operation-eq0
returns-then-operation-eq0 c = inserts _ c.if-operation-eq0.true

pub returns-then-operation-eq1 : goal.returns-then-operation-eq1
returns-then-operation-eq1 c = replaces _ c.if-operation-eq0.false c.if-operation-eq1.true

pub returns-then-operation-eq2 : goal.returns-then-operation-eq2
returns-then-operation-eq2 c = removes _ c.if-operation-eq0.false c.if-operation-eq1.false c.if-operation-eq2.true

pub returns : goal.returns
returns c = unknown _ c.if-operation-eq0.false c.if-operation-eq1.false c.if-operation-eq2.false
