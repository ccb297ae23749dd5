use Rattle.editor.specs.EditLaws.{head-wrong-directory, head-objects}
use Rattle.editor.proofs.head_right.Goals as goal

pub returns-then-not-directory_right : goal.returns-then-not-directory_right
returns-then-not-directory_right c = head-wrong-directory _ _ c.directory_right.ensures (c.if-not-directory_right.true)

pub returns : goal.returns
returns c = head-objects _ _ c.directory_right.ensures (c.if-not-directory_right.false)
    c.lowest_object.ensures
