use Prim.Native.Nat.{◌+◌, ◌-◌}
use mathlib.Core.Path.{◌≡◌, ap, ◌∙◌}
use borrow.Author.Rules.{rules}
use mir.Syntax.{w32}
use mir.Facts.{to_z-of_z}
use Rattle.edits.specs.Edited.{edited_word}
use Rattle.edits.specs.EditLaws.{over-at, over-start}
use Rattle.edits.proofs.fill_edited.Goals as goal

pub loop-i-init : goal.loop-i-init
loop-i-init c = over-start _ _ _

pub loop-i-preserved : goal.loop-i-preserved
loop-i-preserved c = let z : c.loop-i.i ≡ c.args.first + (c.loop-i.i - c.args.first) = search rules in
    over-at c.loop-i.invariant (search rules) (search rules)
    (to_z-of_z {w = w32} {z = c.edited_word.result} (record { sfits = c.edited_word.type_inv })
    ∙ (c.edited_word.ensures ∙ ap (edited_word c.args.table.now c.args.sections c.args.at c.args.removed c.args.added c.args.text.now) z))

pub returns : goal.returns
returns c = let z : c.loop-i.i ≡ c.args.end = search rules in
    rw z at c.loop-i.invariant
